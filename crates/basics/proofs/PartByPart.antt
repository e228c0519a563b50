-- Bytes written one part after the other.
--   flat        some parts, one behind the other
--   Going       of the whole that is to be written from a place on, some is written and some parts are left
--   going_start, going_room, going_on, going_end
--   put_none, put_then, put_front    nothing is written, one list behind another, all at the front
--   held, holds_count, holds_within   what is written at the front stands there
--   put_as      what is written may be called by an equal name
--   copy_more   one more byte of a list is copied
--   going_byte, going_two   the next part is one byte; the next two parts are written as one
use Prim.Native.Nat.{ℕ, ◌+◌, ◌<◌, ◌≤◌}
use native.Mathlib.Omega.{arith}
use mathlib.Core.Path.{◌≡◌, refl, sym, ap, ◌∙◌}
use mathlib.Core.List.{List, [], ◌∷◌, ◌++◌, append_assoc, append-nil}
use lib.ListN.{length, get_or, take, drop, set, length-append, length-take}
use lib.Seq.{sets, sets-eq, length-sets, take_at, length-take-le}
use Rattle.basics.specs.Memory.{Put, Room, Holds, front}
use Rattle.basics.proofs.Stores.{sets_front, sets_append, writing_next}

abbrev pub flat : List (List ℕ) → List ℕ
flat [] = []
flat (x ∷ xs) = x ++ flat xs

pub record Going (out : List ℕ) (at : ℕ) (whole : List ℕ) (left : List (List ℕ)) (out' : List ℕ) (p : ℕ)
    : Type 0 where
  pub done : List ℕ
  pub split : whole ≡ done ++ flat left
  pub put : Put out at done out' p
  pub room : Room out at whole

pub put_length : {out : List ℕ} {at : ℕ} {w out' : List ℕ} {p : ℕ} → Put out at w out' p
    → length out' ≡ length out
put_length {out} {at} {w} p = ap length p.bytes ∙ length-sets out at w

pub put_then : {out x out' y out'' : List ℕ} {at p q : ℕ} → Put out at x out' p → Put out' p y out'' q
    → Put out at (x ++ y) out'' q
put_then {out} {x} {out'} {y} {at = at} {p = p} h u =
    record {
      bytes =
          u.bytes ∙ ap (λ (l : List ℕ). sets l p y) h.bytes
          ∙ ap (λ (n : ℕ). sets (sets out at x) n y) h.next
          ∙ sets_append out at x y;
      next = omega (arith, u.next, h.next, length-append x y);
    }

pub going_start : {out : List ℕ} {at : ℕ} {whole : List ℕ} (left : List (List ℕ)) → whole ≡ flat left
    → Room out at whole → Going out at whole left out at
going_start left e r = record { done = []; split = e; put = record { bytes = refl; next = omega arith }; room = r }

module _ {out : List ℕ} {at : ℕ} {whole : List ℕ} where
  pub going_length : {left : List (List ℕ)} {out' : List ℕ} {p : ℕ} → Going out at whole left out' p
      → length out' ≡ length out
  going_length g = put_length g.put

  pub going_room : {x : List ℕ} {left : List (List ℕ)} {out' : List ℕ} {p : ℕ}
      → Going out at whole (x ∷ left) out' p
      → Room out' p x
  going_room {x} {left} g =
      let r = g.room in
      omega (
        arith,
        going_length g,
        ap length g.split,
        length-append g.done (x ++ flat left),
        length-append x (flat left),
        g.put.next,
      )

  pub going_on :
      {x : List ℕ} {left : List (List ℕ)} {out' out'' : List ℕ} {p q : ℕ} →
      Going out at whole (x ∷ left) out' p →
      Put out' p x out'' q →
      Going out at whole left out'' q
  going_on {x} {left} g u =
      record {
        done = g.done ++ x;
        split = g.split ∙ sym (append_assoc g.done x (flat left));
        put = put_then g.put u;
        room = g.room;
      }

  pub going_end : {out' : List ℕ} {p : ℕ} → Going out at whole [] out' p → Put out at whole out' p
  going_end g =
      let e : g.done ≡ whole = sym (g.split ∙ append-nil g.done) in
      record { bytes = rw e at g.put.bytes; next = rw e at g.put.next }

  pub going_parts : {left left' : List (List ℕ)} {out' : List ℕ} {p : ℕ} → flat left ≡ flat left'
      → Going out at whole left out' p → Going out at whole left' out' p
  going_parts e g =
      record {
        done = g.done;
        split = g.split ∙ ap (λ (l : List ℕ). g.done ++ l) e;
        put = g.put;
        room = g.room;
      }

  pub going_byte : {b : ℕ} {left : List (List ℕ)} {out' : List ℕ} {p : ℕ}
      → Going out at whole ((b ∷ []) ∷ left) out' p
      → p < length out'
  going_byte g = let r = going_room g in omega arith

  pub going_two : {x y : List ℕ} {left : List (List ℕ)} {out' : List ℕ} {p : ℕ}
      → Going out at whole (x ∷ y ∷ left) out' p
      → Going out at whole ((x ++ y) ∷ left) out' p
  going_two {x} {y} {left} g = going_parts (sym (append_assoc x y (flat left))) g

pub put_none : {out : List ℕ} {at : ℕ} → Put out at [] out at
put_none = record { bytes = refl; next = omega arith }

pub put_front : {out w out' : List ℕ} {p : ℕ} → Put out 0 w out' p → length w ≤ length out → out' ≡ front w out
put_front {out} {w} h l = h.bytes ∙ sets_front out w l

-- what is written at the front stands there
pub held : {out w out' : List ℕ} {r : ℕ} → Put out 0 w out' r → Room out 0 w → Holds out' r w
held {out} {w} {r = r} p h =
    let e : ◌≡◌ {A = ℕ} (0 + length w) (length w) = omega arith in
    record {
      front =
          ap (take r) (p.bytes ∙ sets-eq w out 0 h)
          ∙ take_at w (drop (0 + length w) out) r (sym (p.next ∙ e));
      size = p.next ∙ e;
    }

pub holds_count : {list w : List ℕ} {r : ℕ} → Holds list r w → r ≡ length (take r list)
holds_count h = h.size ∙ sym (ap length h.front)

pub holds_within : {list w : List ℕ} {r : ℕ} → Holds list r w → r ≤ length list
holds_within {list} {r = r} h = omega (arith, holds_count h, length-take r list)

-- copying, byte by byte
pub copy_more : (from : List ℕ) (i : ℕ) {out₀ out : List ℕ} {at : ℕ} → i < length from
    → Put out₀ at (take i from) out (at + i)
    → Put out₀ at (take (i + 1) from) (set out (at + i) (get_or from i 0)) (at + (i + 1))
copy_more from i {out₀} {out} {at} h p =
    record {
      bytes = (writing_next (record { within = omega arith; is = p.bytes }) h refl).is;
      next = omega (arith, length-take-le (i + 1) from (omega arith));
    }

pub put_as : {out : List ℕ} {at : ℕ} {v w out' : List ℕ} {r : ℕ} → v ≡ w → Put out at v out' r
    → Put out at w out' r
put_as e h = rw e at h
