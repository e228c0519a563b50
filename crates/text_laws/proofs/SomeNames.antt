-- A good list of n names, for n from 1 to 32: the letters A to Z and a to f, one to a slot.
--   letter, some_names          the letters, and the list of them
--   some_counted, some_good    it has n names, and is good
use Rattle.std.specs.Prelude.{if◌then◌else◌}
use Prim.Native.Nat.{ℕ, zero, suc, ◌+◌, ◌*◌, ◌<◌, ◌≤◌}
use native.Mathlib.Omega.{arith}
use mathlib.Core.Path.{◌≡◌, refl, sym, ap, ◌∙◌}
use mathlib.Core.Bool.{Bool, true, false}
use mathlib.Core.List.{List, [], ◌∷◌, ◌++◌}
use mathlib.Core.Logic.{◌⊎◌, inl, inr}
use lib.Dec.{ltb}
use lib.ListN.{length, get_or, length-append}
use lib.Seq.{take_at, drop_at, drop-drop}
use borrow.Author.Tests.{lt-ltb, le-ltb, ne_eqb}
use Rattle.basics.specs.Words.{all}
use Rattle.alf.specs.Names.{names_in, slot, slot_of, until_zero, name_at, is_name, starts_name, is_letter, GoodSlot}
use Rattle.alf.specs.Refusals.{Passed, Comes}
use Rattle.basics.proofs.Bools.{below?}
use Rattle.basics.proofs.Choices.{every, every_at}
use Rattle.names.specs.Check.{Slots, names_order}
use Rattle.names.proofs.Outcomes.{names_done}

unfoldable pub letter : ℕ → ℕ
letter k = if ltb k 26 then 65 + k else 71 + k

abbrev pub named : ℕ → List ℕ
named k = letter k ∷ []

-- n slots, from the letter of number a on
unfoldable pub names_from : ℕ → ℕ → List ℕ
names_from a zero = []
names_from a (suc n) = slot_of (named a) ++ names_from (suc a) n

abbrev pub some_names : ℕ → List ℕ
some_names n = names_from 0 n

-- the letters: above 0, names, and apart from each other
letter_above : (k : ℕ) → 0 < letter k
unfolding letter
letter_above k = go (ltb k 26)
  where
    go : (b : Bool) → 0 < (if b then 65 + k else 71 + k)
    go true = omega arith
    go false = omega arith

letter_name : (k : ℕ) → k < 32 → is_name (named k) ≡ true
unfolding every is_name all starts_name is_letter letter
letter_name k h = every_at 32 (λ i. is_name (letter i ∷ [])) refl k h

letter_rises : (j k : ℕ) → j < k → letter j < letter k
unfolding letter
letter_rises j k h = go (below? j 26) (below? k 26)
  where
    go : (j < 26) ⊎ (26 ≤ j) → (k < 26) ⊎ (26 ≤ k)
        → (if ltb j 26 then 65 + j else 71 + j) < (if ltb k 26 then 65 + k else 71 + k)
    go (inl a) (inl b) = rw (lt-ltb j 26 a, lt-ltb k 26 b) (omega arith)
    go (inl a) (inr b) = rw (lt-ltb j 26 a, le-ltb k 26 b) (omega arith)
    go (inr a) (inl b) = absurd (omega arith)
    go (inr a) (inr b) = rw (le-ltb j 26 a, le-ltb k 26 b) (omega arith)

-- the slots
slot_size : (k : ℕ) → length (slot_of (named k)) ≡ 32
unfolding slot_of
slot_size k = refl

slot_name : (k : ℕ) → until_zero (slot_of (named k)) ≡ named k
unfolding slot_of until_zero
slot_name k = rw (ne_eqb (letter k) 0 (λ e. omega (arith, letter_above k)))

names_length : (a n : ℕ) → length (names_from a n) ≡ n * 32
unfolding names_from
names_length a zero = refl
names_length a (suc n) =
    omega (
      arith,
      length-append (slot_of (named a)) (names_from (suc a) n),
      slot_size a,
      names_length (suc a) n,
    )

slot_from : (a n k : ℕ) → k < n → slot (names_from a n) k ≡ slot_of (named (a + k))
unfolding names_from slot
slot_from a zero k h = absurd (omega arith)
slot_from a (suc n) zero h =
    let e : a + 0 ≡ a = omega arith in
    rw e (take_at (slot_of (named a)) (names_from (suc a) n) 32 (slot_size a))
slot_from a (suc n) (suc k) h =
    let e : suc k * 32 ≡ 32 + k * 32 = omega arith in
    let f : a + suc k ≡ suc a + k = omega arith in
    let s : List ℕ = slot_of (named a) in
    rw (e, f, ← drop-drop (k * 32) 32 (s ++ names_from (suc a) n), drop_at s (names_from (suc a) n) 32 (slot_size a))
    (slot_from (suc a) n k (omega arith))

module _ (n : ℕ) where
  slot_is : (k : ℕ) → k < n → slot (some_names n) k ≡ slot_of (named k)
  slot_is k h = let e : 0 + k ≡ k = omega arith in rw e at (slot_from 0 n k h)

  name_is : (k : ℕ) → k < n → name_at (some_names n) k ≡ named k
  name_is k h = ap until_zero (slot_is k h) ∙ slot_name k

  pub some_counted : names_in (some_names n) ≡ n
  some_counted = omega (arith, names_length 0 n)

  module _ (some : 1 ≤ n) (few : n ≤ 32) where
    good_slot : (k : ℕ) → k < n → GoodSlot (some_names n) k
    good_slot k h =
        record {
          named = rw (name_is k h) (letter_name k (omega arith));
          filled = slot_is k h ∙ ap slot_of (sym (name_is k h));
          new = λ j l e. apart j l (sym (name_is j (omega arith)) ∙ e ∙ name_is k h);
        }
      where
        apart : (j : ℕ) → j < k → named j ≡ named k → ⊥
        apart j l e =
            let f : letter j ≡ letter k = ap (λ (w : List ℕ). get_or w 0 0) e in
            omega (arith, letter_rises j k l)

    slots : Slots (some_names n)
    slots =
        let e = names_length 0 n in
        record { whole = omega arith; some = omega arith; few = omega arith }

    pub some_good : Passed (names_order (some_names n))
    unfolding Comes
    some_good =
        (names_done (some_names n) (λ k. Unit {0}) slots 0 tt (λ k h. good_slot k (omega (arith, some_counted)))).0
