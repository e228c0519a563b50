-- Row 5 of the table of refusals, by places: where each token begins before the next, `parse` refuses at p exactly
-- where the row is given at p. Main names: row_sound, row_complete, row_never.
use Prim.Native.Nat.{ℕ, ◌<◌}
use native.Mathlib.Omega.{arith}
use mathlib.Core.Path.{◌≡◌, refl, ap, ◌∙◌}
use mathlib.Core.List.{List, [], ◌∷◌, ◌++◌}
use lib.Dec.{ltb}
use borrow.Author.Tests.{ltb-true, ltb-false}
use mathlib.Core.Bool.{Bool, true, false}
use Rattle.alf.specs.Refusals.{First, no_grammar}
use Rattle.grammar.specs.declared.Token.{Token}
use Rattle.grammar.specs.declared.Parsed.{Parsed}
use Rattle.grammar.specs.Grammar.{Tree, Expression, Begins, Refused, at_token, at_end, place_of}
use Rattle.grammar.specs.Answers.{Answer, tree, no_tree, refused_at, Stuck, with_token, with_end}
use Rattle.grammar.specs.Answers.{Rising, none, next}
use Rattle.grammar.proofs.Outcome.{parse_sound, refuse_sound}
use Rattle.grammar.proofs.Unique.{begins_with, expression_begins, Parts, further, shorter, parts}

-- places on the way
rising_end :
    {bytes : ℕ} (ts : List Token) (t : Token) (r : List Token) → Rising bytes (ts ++ (t ∷ r)) → t.place < bytes
rising_end [] t [] (next h none) = h
rising_end [] t (u ∷ r) (next h k) = let z = rising_end [] u r k in omega arith
rising_end (x ∷ ts) t r (next h k) = rising_end ts t r k

rising_part : {bytes : ℕ} (ts us : List Token) → Rising bytes (ts ++ us) → Rising bytes us
rising_part [] us h = h
rising_part (t ∷ ts) us (next h k) = rising_part ts us k

rising_far :
    {bytes : ℕ} (m : List Token) (t u : Token) (r : List Token) →
    Rising bytes (t ∷ (m ++ (u ∷ r))) →
    t.place < u.place
rising_far [] t u r (next h k) = h
rising_far (x ∷ m) t u r (next h k) = let z = rising_far m x u r k in omega arith

-- before the token at which a text is refused, it is stuck nowhere
module _ {bytes i : ℕ} (a r : List Token) (t : Token) (rise : Rising bytes (a ++ (t ∷ r))) (h : i < t.place) where
  not_further : (c d m : List Token) (u : Token) → i ≡ u.place → t ∷ r ≡ m ++ (u ∷ d) → ⊥
  not_further c d [] u q e = let z : t ≡ u = cc in let w = ap (λ (x : Token). x.place) z in omega arith
  not_further c d (x ∷ m) u q e =
      let z : r ≡ m ++ (u ∷ d) = cc in
      let w = rising_far m t u d (rw z at (rising_part a (t ∷ r) rise)) in
      omega arith

  not_shorter :
      (c d m : List Token) (u : Token) →
      i ≡ u.place →
      a ≡ c ++ m →
      u ∷ d ≡ m ++ (t ∷ r) →
      Begins a →
      (Begins (c ++ (u ∷ [])) → ⊥) →
      ⊥
  not_shorter c d [] u q p e b n = let z : u ≡ t = cc in let w = ap (λ (x : Token). x.place) z in omega arith
  not_shorter c d (x ∷ m) u q p e b n =
      let z : x ≡ u = cc in n (begins_with c m u (rw z at (rw p at b)))

  not_before : Begins a → Stuck (a ++ (t ∷ r)) bytes i → ⊥
  not_before b (with_token c d u s q n) = go (parts a (t ∷ r) c (u ∷ d) s)
    where
      go : Parts a (t ∷ r) c (u ∷ d) → ⊥
      go (further m p e) = not_further c d m u q e
      go (shorter m p e) = not_shorter c d m u q p e b n
  not_before b (with_end q n) = let w = rising_end a t r rise in omega arith

-- nor before the end
not_before_end : {ts : List Token} {bytes i : ℕ} → Begins ts → i < bytes → Stuck ts bytes i → ⊥
not_before_end b h (with_token c d u s q n) = n (begins_with c d u (rw s at b))
not_before_end b h (with_end q n) = omega arith

refused_row :
    {ts rest : List Token} {bytes : ℕ} → Rising bytes ts → Refused ts rest →
    First (Stuck ts bytes) (place_of bytes rest)
refused_row rise (at_token {before = a} {rest = r} {t = t} s b n) =
    record {
      given = with_token a r t s refl n;
      before = λ i h k. not_before a r t (rw s at rise) h b (rw s at k);
    }
refused_row rise (at_end b n) = record { given = with_end refl n; before = λ i h k. not_before_end b h k }

-- an expression is stuck nowhere
expression_free : {ts : List Token} {bytes p : ℕ} {e : Tree} → Expression ts e → Stuck ts bytes p → ⊥
expression_free {e = e} x (with_token b r t s q n) = n (begins_with b r t (expression_begins _ e (rw s at x)))
expression_free {e = e} x (with_end q n) = n e x

-- a row fixes its place
first_unique : {so : ℕ → Type 0} {p q : ℕ} → First so p → First so q → p ≡ q
first_unique {so} {p} {q} a b = go (ltb p q) (ltb q p) refl refl
  where
    go : (x y : Bool) → ltb p q ≡ x → ltb q p ≡ y → p ≡ q
    go true y e f = absurd (b.before p (ltb-true p q e) a.given)
    go false true e f = absurd (a.before q (ltb-true q p f) b.given)
    go false false e f = let h = ltb-false p q e in let k = ltb-false q p f in omega arith

module _ {ts : List Token} {bytes : ℕ} {r : Parsed} where
  -- where it refuses, the row is given at its place
  pub row_sound : Rising bytes ts → Answer ts bytes r → r.ok ≡ false → no_grammar (Stuck ts bytes) r.place
  row_sound rise a o =
      let (rest, s, e) = refuse_sound a o in rw e (refused_row rise s)

  -- where the row is given, it refuses at that place
  pub row_complete : {p : ℕ} → Rising bytes ts → Answer ts bytes r → no_grammar (Stuck ts bytes) p
      → r ≡ refused_at p
  row_complete rise (tree x e) f = absurd (expression_free x f.given)
  row_complete rise (no_tree s e) f = e ∙ ap refused_at (first_unique (refused_row rise s) f)

  -- where it answers with a tree, the row is given nowhere
  pub row_never : {p : ℕ} → Answer ts bytes r → r.ok ≡ true → no_grammar (Stuck ts bytes) p → ⊥
  row_never a o f = let (e, x, q) = parse_sound a o in expression_free x f.given
