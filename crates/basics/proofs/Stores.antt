-- Lists that are written entry by entry. `sets d at w` is d with the entries of w from place `at` on.
--   sets_append, sets_next                  a list behind a list, an entry behind a list
--   sets_length                             the length stays
--   sets_placed, sets_front, sets_whole     what stands then, from a place on, at the front, in all
--   sets_copied                             a part of a list that is copied over
--   front_whole                             a front as long as the list is all of it
--   sets_before, sets_behind, sets_inside   one entry then
--   Writing                                 of a list that is to stand in another the first entries are written
--   writing_first, writing_length, writing_next, writing_next_front
--   writing_end, writing_placed, writing_front
--   front_take, front_at, front_holds, front_length, front_next     a list at the front of another
--   put_placed                              a list that is put from a place on stands there
--   placed_whole                            a list put over the whole of another
--   placed_before, placed_behind_lem, placed_inside   one entry of a list in which another stands
use mathlib.Core.Path.{◌≡◌, refl, sym, ap, ◌∙◌}
use mathlib.Core.List.{List, [], ◌∷◌, ◌++◌, append_assoc, append-nil}
use Prim.Native.Nat.{ℕ, zero, suc, ◌+◌, ◌-◌, ◌≤◌, ◌<◌}
use native.Mathlib.Nat.{zero-add}
use native.Mathlib.Numerals.{add-one}
use native.Mathlib.Omega.{arith}
use lib.ListN.{length, get_or, set, take, drop, length-set, length-append, drop_of_length-le, get_or-append}
use lib.Seq.{sets, sets-eq, length-sets, get_or-set_same, get_or-set_other, take-suc, take_all, take_at, length-take-le}
use borrow.Rule.Slice.PartMut.{put_mid}
use Rattle.std.proofs.lemmas.Slice.{put_mid-paste}
use Rattle.std.proofs.lemmas.List.Edits.{paste_all}
use Rattle.basics.specs.Memory.{front, placed, Room, Put}

pub sets_append : (d : List ℕ) (at : ℕ) (xs ys : List ℕ)
    → sets (sets d at xs) (at + length xs) ys ≡ sets d at (xs ++ ys)
sets_append d at [] ys = ap (λ (n : ℕ). sets d n ys) (omega arith)
sets_append d at (x ∷ xs) ys =
    ap (λ (n : ℕ). sets (sets d at (x ∷ xs)) n ys) (omega arith) ∙ sets_append (set d at x) (suc at) xs ys

pub sets_next : (d : List ℕ) (at : ℕ) (w : List ℕ) (v : ℕ)
    → set (sets d at w) (at + length w) v ≡ sets d at (w ++ (v ∷ []))
sets_next d at w v = sets_append d at w (v ∷ [])

pub sets_length : (d : List ℕ) (at : ℕ) (w : List ℕ) → length (sets d at w) ≡ length d
sets_length d at w = length-sets d at w

pub sets_placed : (d : List ℕ) (at : ℕ) (w : List ℕ) → Room d at w → sets d at w ≡ placed d at w
unfolding placed
sets_placed d at w h = sets-eq w d at h ∙ append_assoc (take at d) w (drop (at + length w) d)

-- what stands behind `d[at..at + length w].copy_from_slice(w)`
pub sets_copied : (d : List ℕ) (at k : ℕ) (w ys : List ℕ) → ys ≡ w → length w ≡ k → Room d at w
    → put_mid at k d ys ≡ sets d at w
unfolding placed
sets_copied d at k w ys e h r =
    put_mid-paste at k d ys w (length w) e h refl ∙ paste_all d at w _ refl ∙ sym (sets_placed d at w r)

pub sets_front : (d w : List ℕ) → length w ≤ length d → sets d 0 w ≡ front w d
sets_front d w h =
    sets-eq w d 0 (omega arith) ∙ ap (λ (n : ℕ). w ++ drop n d) (zero-add (length w))

pub front_whole : (d w : List ℕ) → length w ≡ length d → front w d ≡ w
front_whole d w e = rw (drop_of_length-le d {i = length w} (omega arith)) (append-nil w)

pub sets_whole : (d w : List ℕ) → length w ≡ length d → sets d 0 w ≡ w
sets_whole d w e = sets_front d w (omega arith) ∙ front_whole d w e

-- one entry: before what is written, behind it, of it
pub sets_before : (d : List ℕ) (at : ℕ) (w : List ℕ) (i : ℕ) → i < at
    → get_or (sets d at w) i 0 ≡ get_or d i 0
sets_before d at [] i h = refl
sets_before d at (v ∷ w) i h =
    sets_before (set d at v) (suc at) w i (omega arith) ∙ get_or-set_other d at i v 0 (λ e. omega arith)

pub sets_behind : (d : List ℕ) (at : ℕ) (w : List ℕ) (i : ℕ) → at + length w ≤ i
    → get_or (sets d at w) i 0 ≡ get_or d i 0
sets_behind d at [] i h = refl
sets_behind d at (v ∷ w) i h =
    sets_behind (set d at v) (suc at) w i (omega arith) ∙ get_or-set_other d at i v 0 (λ e. omega arith)

pub sets_inside : (d : List ℕ) (at : ℕ) (w : List ℕ) (i : ℕ) → i < length w → Room d at w
    → get_or (sets d at w) (at + i) 0 ≡ get_or w i 0
sets_inside d at [] i h r = absurd (omega arith)
sets_inside d at (v ∷ w) zero h r =
    let e : at + zero ≡ at = omega arith in
    rw e (sets_before (set d at v) (suc at) w at (omega arith) ∙ get_or-set_same d at v 0 (omega arith))
sets_inside d at (v ∷ w) (suc i) h r =
    let e : at + suc i ≡ suc at + i = omega arith in
    rw e (sets_inside (set d at v) (suc at) w i (omega arith) (omega (arith, length-set d at v)))

-- of the list w that is to stand in d from `at` on the first i entries are written
pub record Writing (d : List ℕ) (at : ℕ) (w l : List ℕ) (i : ℕ) : Type 0 where
  pub within : i ≤ length w
  pub is : l ≡ sets d at (take i w)

pub writing_first : {d : List ℕ} {at : ℕ} {w : List ℕ} → Writing d at w d 0
writing_first = record { within = omega arith; is = refl }

module _ {d : List ℕ} {at : ℕ} {w l : List ℕ} {i : ℕ} (g : Writing d at w l i) where
  pub writing_length : length l ≡ length d
  writing_length = ap length g.is ∙ sets_length d at (take i w)

  pub writing_next : {v : ℕ} → i < length w → v ≡ get_or w i 0 → Writing d at w (set l (at + i) v) (i + 1)
  writing_next {v} h e =
      let n = length-take-le i w g.within in
      record {
        within = omega arith;
        is =
            rw (g.is, e, add-one, take-suc w i 0 h)
            (ap (λ (k : ℕ). set (sets d at (take i w)) (at + k) (get_or w i 0)) (sym n)
            ∙ sets_next d at (take i w) (get_or w i 0));
      }

  pub writing_end : length w ≤ i → l ≡ sets d at w
  writing_end h = rw (take_all i w h) at g.is

  pub writing_placed : length w ≤ i → Room d at w → l ≡ placed d at w
  writing_placed h r = writing_end h ∙ sets_placed d at w r

module _ {d w l : List ℕ} {i : ℕ} (g : Writing d 0 w l i) where
  pub writing_next_front : {v : ℕ} → i < length w → v ≡ get_or w i 0 → Writing d 0 w (set l i v) (i + 1)
  writing_next_front h e = rw zero-add at (writing_next g h e)

  pub writing_front : length w ≤ i → length w ≤ length d → l ≡ front w d
  writing_front h r = writing_end g h ∙ sets_front d w r

-- a list at the front of another: it, its entries, the length of all, one entry more
pub front_take : (d w : List ℕ) (n : ℕ) → length w ≡ n → take n (front w d) ≡ w
front_take d w n e = take_at w (drop (length w) d) n e

pub front_at : (d w : List ℕ) (i : ℕ) → i < length w → get_or (front w d) i 0 ≡ get_or w i 0
front_at d w i h = get_or-append w (drop (length w) d) 0 i h

pub front_holds : (d w : List ℕ) → length w ≤ length (front w d)
front_holds d w = rw length-append (omega arith)

pub front_length : (d w : List ℕ) → length w ≤ length d → length (front w d) ≡ length d
front_length d w h = ap length (sym (sets_front d w h)) ∙ sets_length d 0 w

pub front_next : (d w : List ℕ) (v : ℕ) → length w < length d
    → set (front w d) (length w) v ≡ front (w ++ (v ∷ [])) d
front_next d w v h =
    ap (λ (l : List ℕ). set l (length w) v) (sym (sets_front d w (omega arith)))
    ∙ ap (λ (n : ℕ). set (sets d 0 w) n v) (sym (zero-add (length w)))
    ∙ sets_next d 0 w v
    ∙ sets_front d (w ++ (v ∷ [])) (rw length-append (omega arith))

-- a list that is put from a place on stands there
pub put_placed : {out : List ℕ} {at : ℕ} {w out' : List ℕ} {r : ℕ} → Put out at w out' r → Room out at w
    → out' ≡ placed out at w
put_placed {out} {at} {w} p h = p.bytes ∙ sets_placed out at w h

-- a list that is put over the whole of another is it
pub placed_whole : (d w : List ℕ) → length w ≡ length d → placed d 0 w ≡ w
unfolding placed
placed_whole d w e =
    let z : ◌≡◌ {A = ℕ} (0 + length w) (length w) = omega arith in
    rw z (front_whole d w e)

-- one entry of a list in which another stands
module _ (d : List ℕ) (at : ℕ) (w : List ℕ) (r : Room d at w) (i : ℕ) where
  by_stores : {v : ℕ} → get_or (sets d at w) i 0 ≡ v → get_or (placed d at w) i 0 ≡ v
  by_stores e = ap (λ (l : List ℕ). get_or l i 0) (sym (sets_placed d at w r)) ∙ e

  pub placed_before : i < at → get_or (placed d at w) i 0 ≡ get_or d i 0
  placed_before h = by_stores (sets_before d at w i h)

  pub placed_behind_lem : at + length w ≤ i → get_or (placed d at w) i 0 ≡ get_or d i 0
  placed_behind_lem h = by_stores (sets_behind d at w i h)

  pub placed_inside : at ≤ i → i < at + length w → get_or (placed d at w) i 0 ≡ get_or w (i - at) 0
  placed_inside h k =
      let e : at + (i - at) ≡ i = omega arith in
      by_stores (rw e at (sets_inside d at w (i - at) (omega arith) r))
