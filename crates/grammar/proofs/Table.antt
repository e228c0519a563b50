-- Laws of the operator table. Main names: kind-all (what passes a test for each span passes it for each code),
-- binary_level_lem (a binary operator's level is 2 to 5).
use Rattle.std.specs.Prelude.{if◌then◌else◌}
use Prim.Native.Nat.{ℕ, ◌<◌}
use mathlib.Core.Path.{◌≡◌, refl, ap, sym, ◌∙◌}
use mathlib.Core.Bool.{Bool, true, false, ◌&&◌}
use mathlib.Core.List.{List, [], ◌∷◌}
use lib.Dec.{leb, ltb}
use borrow.Author.Tests.{ltb-true}
use Rattle.basics.specs.Words.{all}
use Rattle.basics.proofs.Bools.{and_left, and_right}
use Rattle.grammar.specs.Tokens.{Kind, operand, prefix, question, colon, opening, closing, other, binary, Span}
use Rattle.grammar.specs.Tokens.{table, kind_in, kind}

kind_in_all :
    (test : Kind → Bool) (ss : List Span) (c : ℕ) →
    all (λ (s : Span). test s.is) ss ≡ true →
    test other ≡ true →
    test (kind_in ss c) ≡ true
unfolding kind_in all
kind_in_all test [] c h o = o
kind_in_all test (s ∷ ss) c h o =
    go (leb s.from c && leb c s.upto) (kind_in_all test ss c (and_right (test s.is) _ h) o)
  where
    go : (b : Bool) → test (kind_in ss c) ≡ true → test (if b then s.is else kind_in ss c) ≡ true
    go true ih = and_left (test s.is) _ h
    go false ih = ih

abbrev sound : Kind → Bool
sound operand = true
sound prefix = true
sound question = true
sound colon = true
sound opening = true
sound closing = true
sound other = true
sound (binary l) = ltb 1 l && ltb l 6

pub kind_sound : (c : ℕ) → sound (kind c) ≡ true
unfolding kind table all
kind_sound c = kind_in_all sound table c refl refl

pub binary_level_lem : (c m : ℕ) → kind c ≡ binary m → (1 < m) × (m < 6)
binary_level_lem c m e =
    let h : (ltb 1 m && ltb m 6) ≡ true = ap sound (sym e) ∙ kind_sound c in
    (ltb-true 1 m (and_left _ _ h), ltb-true m 6 (and_right (ltb 1 m) _ h))
