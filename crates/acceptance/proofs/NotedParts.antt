-- Notes on one end more: what is written for it, and that what is noted for the ends before it stays.
-- Main names: noted_none, noting_next, note_next; starts_part, counts_part, pins_part, noted_part.
use Prim.Native.Nat.{ℕ, ◌+◌, ◌-◌, ◌<◌, ◌≤◌, min}
use native.Mathlib.Omega.{arith}
use mathlib.Core.Path.{◌≡◌, ◌∙◌}
use mathlib.Core.Logic.{◌⊎◌, inl, inr}
use mathlib.Core.List.{List}
use lib.ListN.{length, get_or, set, length-set}
use lib.Seq.{get_or-set_same, get_or-set_other}
use Rattle.basics.proofs.Bools.{equal?}
use Rattle.alf.specs.Alternatives.{number_of_alternatives}
use Rattle.trees.specs.Parts.{Ends, EndsVector, vector_at, Start}
use Rattle.trees.proofs.Starts.{ends_pos}
use Rattle.trees.proofs.Vectors.{vector_pos}
use Rattle.steady_pins.specs.Entries.{Entries, PinNumber}
use Rattle.acceptance.specs.Sizes.{PinnedTree}
use Rattle.acceptance.specs.Notes.{NotedStarts, NotedCounts, NotedPins, Noted, Noting, StartBy, CountBy}

-- what is noted up to a place is noted up to one before
module _ {notes tree : List ℕ} {names end m : ℕ} (l : m ≤ end) where
  pub starts_part : NotedStarts notes tree names end → NotedStarts notes tree names m
  starts_part h =
      record {
        long = h.long;
        small = omega (arith, h.small);
        before = λ e p u. h.before e p (omega arith);
        starts = λ e u w. h.starts e (omega arith) w;
      }

  pub counts_part : NotedCounts notes tree names end → NotedCounts notes tree names m
  counts_part h =
      record {
        long = h.long;
        small = omega (arith, h.small);
        few = λ e p u. h.few e p (omega arith);
        counts = λ e u v. h.counts e (omega arith) v;
      }

pub pins_part : {pins notes : List ℕ} {end m : ℕ} → m ≤ end → NotedPins pins notes end → NotedPins pins notes m
pins_part l h =
    record { long = h.long; small = omega (arith, h.small); are = λ e p u. h.are e p (omega arith) }

pub noted_part : {pins notes tree : List ℕ} {names end m : ℕ} → m ≤ end → Noted pins notes tree names end
    → Noted pins notes tree names m
noted_part l h =
    record {
      starts = starts_part l h.starts;
      counts = counts_part l h.counts;
      pinned = pins_part l h.pinned;
    }

-- nothing is noted yet
pub noted_none : {pins notes tree : List ℕ} {names : ℕ} → length notes ≡ 768 → Noted pins notes tree names 0
noted_none k =
    record {
      starts = record {
        long = k;
        small = omega arith;
        before = λ e p u. absurd (omega arith);
        starts = λ e u w. absurd (omega (arith, ends_pos w));
      };
      counts = record {
        long = k;
        small = omega arith;
        few = λ e p u. absurd (omega arith);
        counts = λ e u v. absurd (omega (arith, vector_pos _ _ e v));
      };
      pinned = record { long = k; small = omega arith; are = λ e p u. absurd (omega arith) };
    }

-- one end more
module _ {pins tree : List ℕ} {names end : ℕ} (h : PinnedTree pins tree names end) {e : ℕ} (l : e < end) where
  module _ {notes : List ℕ} (g : Noted pins notes tree names e) where
    same : e ≡ e + 1 - 1
    same = omega arith

    pub noting_next : Noting notes tree names (e + 1)
    noting_next =
        record {
          some = omega arith;
          within = omega (arith, h.ends.within);
          fits = omega (arith, h.small);
          starts = rw same at g.starts;
          counts = rw same at g.counts;
        }

  pub entries_next : Entries pins (e + 1)
  entries_next = record { long = h.long; some = omega arith; few = omega (arith, h.small) }

module _ (notes : List ℕ) (end c s k : ℕ) (long : length notes ≡ 768) (some : 0 < end) (fits : end ≤ 256) where
  abbrev one : List ℕ
  one = set notes (end - 1) c

  abbrev two : List ℕ
  two = set one (255 + end) s

  abbrev all : List ℕ
  all = set two (511 + end) k

  one_long : length one ≡ 768
  one_long = length-set notes (end - 1) c ∙ long

  two_long : length two ≡ 768
  two_long = length-set one (255 + end) s ∙ one_long

  all_long : length all ≡ 768
  all_long = length-set two (511 + end) k ∙ two_long

  -- an entry that is not written stays
  kept : (i : ℕ) → (i ≡ end - 1 → ⊥) → (i ≡ 255 + end → ⊥) → (i ≡ 511 + end → ⊥) → get_or all i 0 ≡ get_or notes i 0
  kept i f g h =
      get_or-set_other two (511 + end) i k 0 h ∙ get_or-set_other one (255 + end) i s 0 g
      ∙ get_or-set_other notes (end - 1) i c 0 f

  count_here : get_or all (end - 1) 0 ≡ c
  count_here =
      get_or-set_other two (511 + end) (end - 1) k 0 (λ e. omega arith)
      ∙ get_or-set_other one (255 + end) (end - 1) s 0 (λ e. omega arith)
      ∙ get_or-set_same notes (end - 1) c 0 (omega arith)

  start_here : get_or all (255 + end) 0 ≡ s
  start_here =
      get_or-set_other two (511 + end) (255 + end) k 0 (λ e. omega arith)
      ∙ get_or-set_same one (255 + end) s 0 (omega (arith, one_long))

  pins_here : get_or all (511 + end) 0 ≡ k
  pins_here = get_or-set_same two (511 + end) k 0 (omega (arith, two_long))

  module _ (e : ℕ) (p : 0 < e) (u : e ≤ end) (f : e ≡ end → ⊥) where
    count_kept : get_or all (e - 1) 0 ≡ get_or notes (e - 1) 0
    count_kept = kept (e - 1) (λ q. f (omega arith)) (λ q. omega arith) (λ q. omega arith)

    start_kept : get_or all (255 + e) 0 ≡ get_or notes (255 + e) 0
    start_kept = kept (255 + e) (λ q. omega arith) (λ q. f (omega arith)) (λ q. omega arith)

    pins_kept : get_or all (511 + e) 0 ≡ get_or notes (511 + e) 0
    pins_kept = kept (511 + e) (λ q. omega arith) (λ q. omega arith) (λ q. f (omega arith))

  module _ {tree : List ℕ} {names : ℕ} (h : Noting notes tree names end) where
    starts_next : StartBy tree names end s → NotedStarts all tree names end
    starts_next w =
        record {
          long = all_long;
          small = fits;
          before = λ e p u. below e p u (equal? e end);
          starts = λ e u v. start e u v (equal? e end);
        }
      where
        below : (e : ℕ) → 0 < e → e ≤ end → (e ≡ end) ⊎ (e ≡ end → ⊥) → get_or all (255 + e) 0 < e
        below e p u (inl q) = rw (q, start_here) w.before
        below e p u (inr f) = rw (start_kept e p u f) (h.starts.before e p (omega arith))

        start : (e : ℕ) → e ≤ end → Ends tree names e → (e ≡ end) ⊎ (e ≡ end → ⊥)
            → Start tree names e (get_or all (255 + e) 0)
        start e u v (inl q) = rw (q, start_here) (w.given (rw q at v))
        start e u v (inr f) = rw (start_kept e (ends_pos v) u f) (h.starts.starts e (omega arith) v)

    counts_next : CountBy tree names end c → NotedCounts all tree names end
    counts_next w =
        record {
          long = all_long;
          small = fits;
          few = λ e p u. few e p u (equal? e end);
          counts = λ e u v. count e u v (equal? e end);
        }
      where
        few : (e : ℕ) → 0 < e → e ≤ end → (e ≡ end) ⊎ (e ≡ end → ⊥) → get_or all (e - 1) 0 ≤ 65
        few e p u (inl q) = rw (q, count_here) w.few
        few e p u (inr f) = rw (count_kept e p u f) (h.counts.few e p (omega arith))

        count : (e : ℕ) → e ≤ end → EndsVector tree names e → (e ≡ end) ⊎ (e ≡ end → ⊥)
            → get_or all (e - 1) 0 ≡ min 65 (number_of_alternatives (vector_at tree names e))
        count e u v (inl q) = rw (q, count_here) (w.given (rw q at v))
        count e u v (inr f) = count_kept e (vector_pos _ _ e v) u f ∙ h.counts.counts e (omega arith) v

  pins_next : {pins : List ℕ} → NotedPins pins notes (end - 1) → PinNumber pins end k → NotedPins pins all end
  pins_next {pins} g w = record { long = all_long; small = fits; are = λ e p u. here e p u (equal? e end) }
    where
      here : (e : ℕ) → 0 < e → e ≤ end → (e ≡ end) ⊎ (e ≡ end → ⊥) → PinNumber pins e (get_or all (511 + e) 0)
      here e p u (inl q) = rw (q, pins_here) w
      here e p u (inr f) = rw (pins_kept e p u f) (g.are e p (omega arith))

pub note_next : {pins tree notes : List ℕ} {names end e c s k : ℕ} → PinnedTree pins tree names end → e < end
    → Noted pins notes tree names e → CountBy tree names (e + 1) c → StartBy tree names (e + 1) s
    → PinNumber pins (e + 1) k
    → Noted pins (set (set (set notes (e + 1 - 1) c) (255 + (e + 1)) s) (511 + (e + 1)) k) tree names (e + 1)
note_next {notes = notes} {e = e} {c = c} {s = s} {k = k} h l g x y z =
    let n = noting_next h l g in
    let long = g.starts.long in
    record {
      starts = starts_next notes (e + 1) c s k long n.some n.fits n y;
      counts = counts_next notes (e + 1) c s k long n.some n.fits n x;
      pinned = pins_next notes (e + 1) c s k long n.some n.fits (rw (same h l g) at g.pinned) z;
    }
