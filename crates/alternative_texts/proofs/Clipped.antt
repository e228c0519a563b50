-- Writing as far as there is room: parts one behind the other, whether they have room or not.
--   beyond                   a byte behind the end is left out
--   put_more, put_all        a list, byte by byte
--   lead_none, lead_some, lead_short     the gap before a part
--   Laying                   of the whole that is to be written, some is written and some parts are left
--   laying_start, laying_on, laying_end, laying_parts
use Prim.Native.Nat.{ℕ, zero, suc, ◌+◌, ◌<◌, ◌≤◌}
use native.Mathlib.Omega.{arith}
use native.Mathlib.Numerals.{add-one}
use mathlib.Core.Path.{◌≡◌, refl, sym, ap, ◌∙◌}
use mathlib.Core.List.{List, [], ◌∷◌, ◌++◌, append_assoc, append-nil}
use lib.ListN.{length, get_or, take}
use lib.Seq.{set_out, take-suc, take_all, length-take-le}
use Rattle.basics.specs.Memory.{Put}
use Rattle.basics.proofs.PartByPart.{flat}
use Rattle.basics.proofs.PartByPart.{put_as}
use Rattle.basics.proofs.PartByPart.{put_then}
use Rattle.alternative_texts.specs.Inner.{Countable, lead}

pub beyond : {out : List ℕ} {at : ℕ} (b : ℕ) → length out ≤ at → Put out at (b ∷ []) out (at + 1)
beyond {out} {at} b h = record { bytes = sym (set_out out at b h); next = omega arith }

pub put_none : {out : List ℕ} {at : ℕ} → Put out at [] out at
put_none = record { bytes = refl; next = omega arith }

-- a list, byte by byte
pub put_more : (from : List ℕ) (i : ℕ) {out₀ out out' : List ℕ} {at p q : ℕ} → i < length from
    → Put out₀ at (take i from) out p → Put out p (get_or from i 0 ∷ []) out' q
    → Put out₀ at (take (i + 1) from) out' q
put_more from i h p u =
    put_as (sym (take-suc from i 0 h) ∙ ap (λ (n : ℕ). take n from) (sym (add-one i))) (put_then p u)

pub put_countable : {from : List ℕ} {at : ℕ} (i b : ℕ) {out₀ out : List ℕ} {p : ℕ} → Countable at from
    → i < length from → Put out₀ at (take i from) out p → Countable p (b ∷ [])
put_countable {from} i b k h p =
    record { small = omega (arith, k.small, p.next, length-take-le i from (omega arith)) }

pub put_all : (from : List ℕ) (i : ℕ) {out₀ out : List ℕ} {at p : ℕ} → length from ≤ i
    → Put out₀ at (take i from) out p → Put out₀ at from out p
put_all from i h p = put_as (take_all i from h) p

-- the gap
pub lead_none : (gap : List ℕ) {i : ℕ} → i ≡ 0 → lead gap i ≡ []
unfolding lead
lead_none gap e = rw e refl

pub lead_some : (gap : List ℕ) (i : ℕ) → (i ≡ 0 → ⊥) → lead gap i ≡ gap
unfolding lead
lead_some gap zero f = absurd (f refl)
lead_some gap (suc i) f = refl

pub lead_short : (gap : List ℕ) (i : ℕ) → length (lead gap i) ≤ length gap
unfolding lead
lead_short gap zero = omega arith
lead_short gap (suc i) = omega arith

-- parts, one behind the other
pub record Laying (out : List ℕ) (at : ℕ) (whole : List ℕ) (left : List (List ℕ)) (out' : List ℕ) (p : ℕ)
    : Type 0 where
  pub done : List ℕ
  pub split : whole ≡ done ++ flat left
  pub put : Put out at done out' p

pub laying_start : {out : List ℕ} {at : ℕ} {whole : List ℕ} (left : List (List ℕ)) → whole ≡ flat left
    → Laying out at whole left out at
laying_start left e = record { done = []; split = e; put = put_none }

module _ {out : List ℕ} {at : ℕ} {whole : List ℕ} where
  pub laying_on :
      {x : List ℕ} {left : List (List ℕ)} {out' out'' : List ℕ} {p q : ℕ} →
      Laying out at whole (x ∷ left) out' p →
      Put out' p x out'' q →
      Laying out at whole left out'' q
  laying_on {x} {left} g u =
      record {
        done = g.done ++ x;
        split = g.split ∙ sym (append_assoc g.done x (flat left));
        put = put_then g.put u;
      }

  pub laying_end : {out' : List ℕ} {p : ℕ} → Laying out at whole [] out' p → Put out at whole out' p
  laying_end g = put_as (sym (g.split ∙ append-nil g.done)) g.put

  pub laying_parts : {left left' : List (List ℕ)} {out' : List ℕ} {p : ℕ} → flat left ≡ flat left'
      → Laying out at whole left out' p → Laying out at whole left' out' p
  laying_parts e g =
      record {
        done = g.done;
        split = g.split ∙ ap (λ (l : List ℕ). g.done ++ l) e;
        put = g.put;
      }
