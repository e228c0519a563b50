-- Refusals 3 and 4 of a text from the codes of its tokens, whatever their places: brackets open nowhere deeper than
-- the grammar's `depth` says, and nowhere are more tokens counted than there are.
--   opens                             a token opens or closes brackets by its code as by its kind
--   never_deep, never_many            so a text with few brackets and tokens is not refused
--   depth_renumbered, counted_renumbered   depth and count do not see places
use Rattle.std.specs.Prelude.{if◌then◌else◌}
use Prim.Native.Nat.{ℕ, ◌+◌, ◌-◌, ◌<◌, ◌≤◌, max}
use native.Mathlib.Omega.{arith}
use native.Mathlib.Numerals.{sub-one}
use mathlib.Core.Path.{◌≡◌, refl, sym, ap}
use mathlib.Core.Bool.{Bool, true, false, ◌||◌}
use mathlib.Core.List.{List, [], ◌∷◌, map}
use mathlib.Core.Logic.{◌⊎◌, inl, inr}
use lib.Dec.{eqb, leb}
use borrow.Author.Tests.{ne_eqb}
use Rattle.basics.proofs.Bools.{never, below?, equal?}
use Rattle.basics.proofs.Choices.{every, every_at}
use Rattle.tokens.specs.Texts as text
use Rattle.tokens.specs.Texts.{running, deep, many}
use Rattle.grammar.specs.declared.Token.{Token}
use Rattle.grammar.specs.Tokens.{Kind, operand, prefix, question, colon, opening, closing, other, binary}
use Rattle.grammar.specs.Tokens.{table, kind_in, kind, kind_of, weight, counted, tokens}
use Rattle.grammar.specs.Written.{opened, depth}
use Rattle.reader.specs.Texts.{tokens_of}
use Rattle.sorting.proofs.NodeCodes.{code_far}
use Rattle.reader.proofs.Texts.{counts}
use Rattle.text_laws.proofs.Renumbering.{placed_by, renumbered}

-- tokens that open and close nothing
still : Kind → Bool
still operand = true
still prefix = true
still question = true
still colon = true
still opening = false
still closing = false
still other = true
still (binary l) = true

opened_still : (k : Kind) (n : ℕ) → still k ≡ true → opened k n ≡ n
unfolding still
opened_still operand n h = refl
opened_still prefix n h = refl
opened_still question n h = refl
opened_still colon n h = refl
opened_still opening n h = never h
opened_still closing n h = never h
opened_still other n h = refl
opened_still (binary l) n h = refl

others_still : every 148 (λ c. eqb c 62 || (eqb c 63 || still (kind c))) ≡ true
unfolding every still kind kind_in table
others_still = refl

code_still : (c : ℕ) → (c ≡ 62 → ⊥) → (c ≡ 63 → ⊥) → still (kind c) ≡ true
unfolding still
code_still c a b = go (below? c 148)
  where
    go : (c < 148) ⊎ (148 ≤ c) → still (kind c) ≡ true
    go (inl l) =
        rw (ne_eqb c 62 a, ne_eqb c 63 b) at
        (every_at 148 (λ c. eqb c 62 || (eqb c 63 || still (kind c))) others_still c l)
    go (inr l) = rw (code_far c l) refl

pub opens : (c n : ℕ) → text.opened c n ≡ opened (kind c) n
unfolding text.opened kind kind_in table
opens c n = go (equal? c 62) (equal? c 63)
  where
    go : (c ≡ 62) ⊎ (c ≡ 62 → ⊥) → (c ≡ 63) ⊎ (c ≡ 63 → ⊥)
        → (if eqb c 62 then n + 1 else if eqb c 63 then n - 1 else n) ≡ opened (kind c) n
    go (inl e) f = rw e (omega arith)
    go (inr a) (inl e) = rw e (sub-one n)
    go (inr a) (inr b) = rw (ne_eqb c 62 a, ne_eqb c 63 b) (sym (opened_still (kind c) n (code_still c a b)))

-- they open no deeper
running_depth : (ts : List text.Token) (n p : ℕ) → running text.opened n ts p ≤ depth n (tokens_of ts)
unfolding running depth tokens
running_depth [] n p = omega arith
running_depth (t ∷ ts) n p = go (leb t.place p) (running_depth ts (text.opened t.code n) p)
  where
    go : (b : Bool)
        → running text.opened (text.opened t.code n) ts p ≤ depth (text.opened t.code n) (tokens_of ts)
        → (if b then running text.opened (text.opened t.code n) ts p else n)
        ≤ max n (depth (opened (kind t.code) n) (tokens_of ts))
    go true h = omega (arith, h, ap (λ (d : ℕ). depth d (tokens_of ts)) (opens t.code n))
    go false h = omega arith

pub never_deep : (ts : List text.Token) → depth 0 (tokens_of ts) ≤ 32 → (p : ℕ) → deep ts p → ⊥
never_deep ts h p d = omega (arith, d.given, running_depth ts 0 p)

-- no more are counted
running_counted : (ts : List text.Token) (n p : ℕ) → running text.counted n ts p ≤ n + counted (tokens_of ts)
unfolding running counted tokens
running_counted [] n p = omega arith
running_counted (t ∷ ts) n p = go (leb t.place p) (running_counted ts (text.counted t.code n) p)
  where
    go : (b : Bool)
        → running text.counted (text.counted t.code n) ts p ≤ text.counted t.code n + counted (tokens_of ts)
        → (if b then running text.counted (text.counted t.code n) ts p else n)
        ≤ n + (weight (kind t.code) + counted (tokens_of ts))
    go true h = omega (arith, h, counts t.code n)
    go false h = omega arith

pub never_many : (ts : List text.Token) → counted (tokens_of ts) ≤ 256 → (p : ℕ) → many ts p → ⊥
never_many ts h p d = omega (arith, d.given, running_counted ts 0 p)

-- without places
module _ (number : ℕ → ℕ) where
  pub depth_renumbered : (ts : List Token) (d : ℕ) → depth d (map (renumbered number) ts) ≡ depth d ts
  unfolding depth placed_by
  depth_renumbered [] d = refl
  depth_renumbered (t ∷ ts) d = ap (max d) (depth_renumbered ts (opened (kind_of t) d))

  pub counted_renumbered : (ts : List Token) → counted (map (renumbered number) ts) ≡ counted ts
  unfolding counted placed_by
  counted_renumbered [] = refl
  counted_renumbered (t ∷ ts) = ap (λ (n : ℕ). weight (kind_of t) + n) (counted_renumbered ts)
