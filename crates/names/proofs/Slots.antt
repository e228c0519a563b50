-- Laws of slots: a slot as a part of the list, what its bytes tell, and when it is good.
--   slot_part, name_part, rest_part   the parts of the list that a slot, its name and what is behind it are
--   slot_of_lem, filled, unfilled         a name as a slot: its bytes, then zeros
--   same_told, part_told              what a comparison of slots tells
--   slot_unnamed, slot_unfilled, slot_good   what the tests of a slot tell
use mathlib.Core.Path.{◌≡◌, refl, sym, ap, ◌∙◌}
use mathlib.Core.Bool.{Bool, true, false}
use mathlib.Core.List.{List, [], ◌∷◌, ◌++◌}
use Prim.Native.Nat.{ℕ, zero, suc, ◌+◌, ◌-◌, ◌*◌, ◌≤◌, ◌<◌}
use native.Mathlib.Omega.{arith}
use lib.ListN.{
  length,
  take,
  drop,
  replicate,
  length-replicate,
  length-drop,
  replicate-append-replicate,
  take-append-drop,
}
use lib.Seq.{take-take, drop-drop, take-add, drop_at, take_at, length-take-le, take-append-add}
use Rattle.basics.specs.Deciding.{Decides}
use Rattle.basics.proofs.Deciding.{told, not_told, decided_by, same_decided}
use Rattle.alf.specs.Names.{slot, until_zero, name_at, slot_of, is_name, GoodSlot}
use Rattle.names.specs.Check.{NameLength, Zeros, New}

pub same_told :
    {a b : List ℕ} {n m : ℕ} (r : Bool) →
    (r ≡ true → take n a ≡ take m b) →
    (take n a ≡ take m b → r ≡ true) →
    NameLength a n →
    NameLength b m →
    Decides r (until_zero a ≡ until_zero b)
same_told r y z p q =
    decided_by r (λ e. sym p.name ∙ y e ∙ q.name) (λ e. z (p.name ∙ e ∙ sym q.name))

module _ (names : List ℕ) (k : ℕ) where
  pub slot_part : take (k * 32 + 32 - k * 32) (drop (k * 32) names) ≡ slot names k
  unfolding slot
  slot_part = let e : k * 32 + 32 - k * 32 ≡ 32 = omega arith in rw e

  pub slot_length : k * 32 + 32 ≤ length names → length (slot names k) ≡ 32
  unfolding slot
  slot_length h = length-take-le 32 (drop (k * 32) names) (rw length-drop (omega arith))

  pub name_part : (n : ℕ) → n ≤ 32 → take (k * 32 + n - k * 32) (drop (k * 32) names) ≡ take n (slot names k)
  unfolding slot
  name_part n h =
      let e : k * 32 + n - k * 32 ≡ n = omega arith in
      rw (e, take-take n 32 (drop (k * 32) names) h)

pub part_told :
    (names : List ℕ) (j k : ℕ) (b : Bool) →
    Decides b
    (until_zero (take (j * 32 + 32 - j * 32) (drop (j * 32) names))
    ≡ until_zero (take (k * 32 + 32 - k * 32) (drop (k * 32) names))) →
    Decides b (name_at names j ≡ name_at names k)
part_told names j k b t = rw (slot_part names j, slot_part names k) at t

drop_take : (n m : ℕ) (l : List ℕ) → n ≤ length l → drop n (take (n + m) l) ≡ take m (drop n l)
drop_take n m l h = rw (take-add n m l) (drop_at (take n l) (take m (drop n l)) n (length-take-le n l h))

module _ (names : List ℕ) (k n : ℕ) (h : k * 32 + 32 ≤ length names) (l : n ≤ 32) where
  pub rest_part :
      take (k * 32 + 32 - (k * 32 + n)) (drop (k * 32 + n) names) ≡ drop n (slot names k)
  unfolding slot
  rest_part =
      let e : k * 32 + 32 - (k * 32 + n) ≡ 32 - n = omega arith in
      let f : n + (32 - n) ≡ 32 = omega arith in
      let d : n ≤ length (drop (k * 32) names) = rw length-drop (omega arith) in
      rw (e, ← drop-drop n (k * 32) names) (rw f at (sym (drop_take n (32 - n) (drop (k * 32) names) d)))

take_replicate : (n m : ℕ) → take {A = ℕ} n (replicate (n + m) 0) ≡ replicate n 0
take_replicate n m =
    rw (← replicate-append-replicate {A = ℕ} n m 0)
    (take_at (replicate {A = ℕ} n 0) (replicate m 0) n (length-replicate {A = ℕ} n 0))

pub slot_of_lem : (name : List ℕ) → length name ≤ 32 → slot_of name ≡ name ++ replicate (32 - length name) 0
unfolding slot_of
slot_of_lem name h =
    let e : length name + (32 - length name) ≡ 32 = omega arith in
    let f : 32 - length name + length name ≡ 32 = omega arith in
    rw e at (take-append-add name (replicate 32 0) (32 - length name))
    ∙ ap (λ (l : List ℕ). name ++ l) (rw f at (take_replicate (32 - length name) (length name)))

module _ {s : List ℕ} {n : ℕ} (size : length s ≡ 32) (p : NameLength s n) where
  named_length : length (until_zero s) ≡ n
  named_length = rw (← p.name) (length-take-le n s p.within)

  rest_length : length (drop n s) ≡ 32 - length (until_zero s)
  rest_length = length-drop n s ∙ rw (size, named_length)

  as_slot : slot_of (until_zero s) ≡ until_zero s ++ replicate (length (drop n s)) 0
  as_slot = rw rest_length (slot_of_lem (until_zero s) (omega (arith, named_length, p.within)))

  pub filled : Zeros (drop n s) → s ≡ slot_of (until_zero s)
  filled z = sym (take-append-drop n s) ∙ rw (as_slot, p.name) (ap (λ (l : List ℕ). until_zero s ++ l) z)

  pub unfilled : s ≡ slot_of (until_zero s) → Zeros (drop n s)
  unfilled e = ap (drop n) (e ∙ as_slot) ∙ drop_at (until_zero s) _ n named_length

-- what the tests tell of slot k, made on the parts of the list that its bytes, its name and what is behind it are
module _
    (names : List ℕ) (k : ℕ) {n : ℕ} (h : k * 32 + 32 ≤ length names)
    (p : NameLength (take (k * 32 + 32 - k * 32) (drop (k * 32) names)) n)
  where
    long : NameLength (slot names k) n
    long = rw (slot_part names k) at p

    short : n ≤ 32
    short = omega (arith, long.within, slot_length names k h)

    module _ {r : Bool} (e : r ≡ is_name (take (k * 32 + n - k * 32) (drop (k * 32) names))) where
      named : r ≡ is_name (name_at names k)
      named = e ∙ ap is_name (name_part names k n short ∙ long.name)

      pub slot_unnamed : r ≡ false → GoodSlot names k → ⊥
      slot_unnamed f g =
          let t : true ≡ false = sym g.named ∙ sym named ∙ f in
          let z : ◌≡◌ {A = ℕ} 0 1 = cc in
          omega arith

      module _ (b : Bool) (t : Decides b (Zeros (take (k * 32 + 32 - (k * 32 + n)) (drop (k * 32 + n) names)))) where
        zeros : Decides b (Zeros (drop n (slot names k)))
        zeros = rw (rest_part names k n h short) at t

        pub slot_unfilled : b ≡ false → GoodSlot names k → ⊥
        slot_unfilled f g = not_told _ zeros f (unfilled (slot_length names k h) long g.filled)

        pub slot_good : r ≡ true → b ≡ true → (w : Bool) → Decides w (New names k)
            → Decides w (GoodSlot names k)
        slot_good y z w d =
            same_decided _ _ w
            (λ new.
            record {
              named = sym named ∙ y;
              filled = filled (slot_length names k h) long (told _ zeros z);
              new = new;
            }) (λ g. g.new) d
