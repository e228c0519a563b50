-- Laws of names and slots, in the steps in which code walks a list.
--   name-..    when bytes are a name: is_name
--   until-..   the bytes before the first zero: until_zero
--   zeros-..   nothing but zeros
use mathlib.Core.Path.{◌≡◌, refl, sym, ap, ◌∙◌}
use mathlib.Core.Bool.{Bool, true, false, and-false, and-true}
use mathlib.Core.List.{List, [], ◌∷◌, ◌++◌, append_assoc, append-nil}
use Prim.Native.Nat.{ℕ, zero, suc, ◌+◌, ◌≤◌, ◌<◌}
use native.Mathlib.Omega.{arith}
use native.Mathlib.Numerals.{add-one}
use lib.ListN.{length, get_or, take, drop, drop_of_length-le, replicate, length-replicate, get_or-replicate}
use lib.Seq.{drop-cons, take-suc, ext_get_or}
use borrow.Author.Tests.{le-ltb, lt-ltb, eq-eqb, ne_eqb}
use Rattle.basics.specs.Words.{all}
use Rattle.alf.specs.Names.{starts_name, goes_on_name, is_name, until_zero}
use Rattle.std.specs.Bool.{MatchBool}
use Rattle.std.specs.List.{AllWithin, HoldsAt}
use Rattle.basics.specs.Deciding.{Decides}
use Rattle.names.specs.Check.{Zeros}

pub name_empty : (s : List ℕ) → length s ≡ 0 → false ≡ is_name s
unfolding is_name
name_empty [] h = refl
name_empty (b ∷ bs) h = absurd (omega arith)

pub name_long : (s : List ℕ) → 32 < length s → false ≡ is_name s
unfolding is_name
name_long [] h = refl
name_long (b ∷ bs) h = simp (le-ltb (length bs) 32 (omega arith), and-false)

pub name_start : (s : List ℕ) → starts_name (get_or s 0 0) ≡ false → false ≡ is_name s
unfolding is_name
name_start [] h = refl
name_start (b ∷ bs) h = rw h

pub name_rest :
    (s : List ℕ) → 0 < length s → length s ≤ 32 → starts_name (get_or s 0 0) ≡ true →
    is_name s ≡ all goes_on_name (drop 1 s)
unfolding is_name
name_rest [] p q h = absurd (omega arith)
name_rest (b ∷ bs) p q h = simp (h, lt-ltb (length bs) 32 (omega arith), and-true)

module _ (p : ℕ → Bool) (s : List ℕ) (i : ℕ) where
  pub all_end : length s ≤ i → all p (drop i s) ≡ true
  unfolding all
  all_end h = rw (drop_of_length-le s h)

  pub all_more : i < length s → p (get_or s i 0) ≡ true → all p (drop i s) ≡ all p (drop (i + 1) s)
  unfolding all
  all_more h e = rw (add-one, drop-cons s i 0 h, e)

  pub all_stop : i < length s → p (get_or s i 0) ≡ false → all p (drop i s) ≡ false
  unfolding all
  all_stop h e = rw (drop-cons s i 0 h, e)

module _ (s : List ℕ) (i : ℕ) where
  until_at_end : length s ≤ i → until_zero (drop i s) ≡ []
  unfolding until_zero
  until_at_end h = rw (drop_of_length-le s h)

  until_at_zero : i < length s → get_or s i 0 ≡ 0 → until_zero (drop i s) ≡ []
  unfolding until_zero
  until_at_zero h e = rw (drop-cons s i 0 h, eq-eqb (get_or s i 0) 0 e)

  until_at_more :
      i < length s → (get_or s i 0 ≡ 0 → ⊥) → until_zero (drop i s) ≡ get_or s i 0 ∷ until_zero (drop (i + 1) s)
  unfolding until_zero
  until_at_more h e = rw (add-one, drop-cons s i 0 h, ne_eqb (get_or s i 0) 0 e)

module _ (s : List ℕ) (i : ℕ) (so_far : until_zero s ≡ take i s ++ until_zero (drop i s)) where
  pub until_end : length s ≤ i → take i s ≡ until_zero s
  until_end h = rw (so_far, until_at_end s i h, append-nil)

  pub until_zero_lem : i < length s → get_or s i 0 ≡ 0 → take i s ≡ until_zero s
  until_zero_lem h e = rw (so_far, until_at_zero s i h e, append-nil)

  pub until_more :
      i < length s → (get_or s i 0 ≡ 0 → ⊥) → until_zero s ≡ take (i + 1) s ++ until_zero (drop (i + 1) s)
  until_more h e =
      so_far ∙ ap (λ (l : List ℕ). take i s ++ l) (until_at_more s i h e)
      ∙ rw (add-one, take-suc s i 0 h, append_assoc)

module _ (s : List ℕ) where
  pub zeros_all : ((k : ℕ) → k < length s → get_or s k 0 ≡ 0) → Zeros s
  zeros_all h =
      ext_get_or 0 s (replicate (length s) 0) (rw length-replicate)
      (λ k l. h k l ∙ sym (get_or-replicate (length s) k 0 0 l))

  pub zeros_not : (i : ℕ) → i < length s → (get_or s i 0 ≡ 0 → ⊥) → Zeros s → ⊥
  zeros_not i h n z = n (ap (λ (l : List ℕ). get_or l i 0) z ∙ get_or-replicate (length s) i 0 0 h)

-- the bytes before the first zero, by the place of that zero
pub until_first :
    (s : List ℕ) (r : ℕ) → r ≤ length s → ((i : ℕ) → i < r → get_or s i 0 ≡ 0 → ⊥) →
    (r < length s → get_or s r 0 ≡ 0) → take r s ≡ until_zero s
unfolding until_zero
until_first [] zero w n t = refl
until_first [] (suc r) w n t = absurd (omega arith)
until_first (b ∷ bs) zero w n t = rw (eq-eqb b 0 (t (omega arith))) refl
until_first (b ∷ bs) (suc r) w n t =
    rw (ne_eqb b 0 (n 0 (omega arith)))
    (ap (λ (l : List ℕ). b ∷ l)
    (until_first bs r (omega arith) (λ i l. n (suc i) (omega arith)) (λ l. t (omega arith))))

-- whether each byte is zero, as a walk over them says it
pub zeros_said :
    (s : List ℕ) (r : Bool) →
    MatchBool r (AllWithin (λ x. x ≡ 0) s 0 (length s)) ((k : ℕ) × (k < length s) × HoldsAt (λ x. x ≡ 0 → ⊥) s k) →
    Decides r (Zeros s)
unfolding Decides
zeros_said s true h = zeros_all s (λ k l. h k 0 (omega arith) l)
zeros_said s false h = zeros_not s h.0 h.1 (h.2 0)
