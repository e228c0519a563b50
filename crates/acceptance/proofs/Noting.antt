-- What is found for the next end from what is noted for the ends before it: where a part that ends there starts, and
-- how many alternatives it has.
-- Main names: Passing, pass_first, pass_next, pass_end, pass_none; edge_count, right_few, none_before, before_count,
-- left_small, none_left, left_few, condition_count, none_below, none_above, join_asked, join_count.
use Prim.Native.Nat.{ℕ, zero, suc, ◌+◌, ◌-◌, ◌<◌, ◌≤◌, min}
use native.Mathlib.Omega.{arith}
use native.Mathlib.Nat.{zero-add}
use mathlib.Core.Path.{◌≡◌}
use mathlib.Core.Logic.{◌⊎◌, inl, inr}
use mathlib.Core.List.{List}
use lib.ListN.{get_or}
use Rattle.basics.proofs.Bools.{equal?}
use Rattle.alf.specs.Decoder.{arity_at, join_at}
use Rattle.alternatives.specs.Picks.{count_of}
use Rattle.trees.specs.Parts.{Ends, EndsVector, Start}
use Rattle.trees.proofs.Starts.{Going, going_first, going_on, going_part, going_done, deep_one, deep_whole, ends_pos}
use Rattle.trees.proofs.Vectors.{Joined, vector_pos, right_ends, before_ends, ends_left}
use Rattle.trees.proofs.Vectors.{condition_is, join_is}
use Rattle.acceptance.specs.Sizes.{Counts}
use Rattle.acceptance.specs.Notes.{Noting, StartBy, CountBy}
use Rattle.acceptance.proofs.Numbers.{edge_number_lem, before_number, condition_number, join_number}

-- from `end` back to `at`, where it is a part's end: `need` parts are still to be passed
pub record Passing (t : List ℕ) (names end at need : ℕ) : Type 0 where
  pub below : at < end
  pub going : Ends t names end → Going t names end at need

module _ {notes t : List ℕ} {names end : ℕ} (h : Noting notes t names end) where
  pub pass_first : {k : ℕ} → k ≡ arity_at (get_or t (end - 1) 0) → Passing t names end (end - 1) k
  pass_first e =
      record {
        below = omega (arith, h.some);
        going = λ w. rw e (rw zero-add at (going_on t names end end 1 (going_first w) (omega arith)));
      }

  part_ends : (at n : ℕ) → Going t names end at (suc n) → Ends t names at
  part_ends at n g =
      record { within = omega (arith, g.low, h.within); whole = deep_whole _ (deep_one n _ g.has) }

  pub pass_next : (at need : ℕ) → Passing t names end at need → 0 < need → (at ≡ 0 → ⊥)
      → Passing t names end (get_or notes (255 + at) 0) (need - 1)
  pass_next at zero p l f = absurd (omega arith)
  pass_next at (suc n) p l f =
      let s = h.starts in
      let u : at ≤ end - 1 = omega (arith, p.below) in
      let o : suc n - 1 ≡ n = omega arith in
      rw o
      (record {
        below = omega (arith, s.before at (omega arith) u, p.below);
        going = λ w.
            let g = p.going w in
            going_part t names end at n _ g (s.starts at u (part_ends at n g));
      })

  pub pass_end : {at need : ℕ} → Passing t names end at need → need ≤ 0 → StartBy t names end at
  pass_end p l = record { before = p.below; given = λ w. going_done (p.going w) l }

  pub pass_none : {at need : ℕ} → Passing t names end at need → 0 < need → at ≡ 0 → StartBy t names end 0
  pass_none p l e = record { before = h.some; given = λ w. absurd (omega (arith, (p.going w).few)) }

  -- the number of alternatives, by the last byte
  abbrev b : ℕ
  b = get_or t (end - 1) 0

  abbrev left : ℕ
  left = get_or notes (255 + (end - 1)) 0

  pub edge_count : 64 ≤ b → CountBy t names end 1
  edge_count k = record { few = omega arith; given = λ v. edge_number_lem t names end v k }

  pub right_few : (end - 1 ≡ 0 → ⊥) → get_or notes (end - 1 - 1) 0 ≤ 65
  right_few f = h.counts.few (end - 1) (omega arith) (omega arith)

  -- c & P
  pub before_count : b ≡ 57 → (end - 1 ≡ 0 → ⊥) → CountBy t names end (get_or notes (end - 1 - 1) 0)
  before_count k f =
      record {
        few = right_few f;
        given = λ v.
            before_number t names end v k
            (h.counts.counts (end - 1) (omega arith) (before_ends t names end v k));
      }

  module _ (k : b < 64) where
    pub none_before : end - 1 ≡ 0 → CountBy t names end 0
    none_before z = record { few = omega arith; given = λ v. absurd (go v (equal? b 57)) }
      where
        go : EndsVector t names end → (b ≡ 57) ⊎ (b ≡ 57 → ⊥) → ⊥
        go v (inl e) = omega (arith, vector_pos t names (end - 1) (before_ends t names end v e))
        go v (inr e) = omega (arith, ends_pos (right_ends t names end v k e))

    module _ (g : b ≡ 57 → ⊥) (f : end - 1 ≡ 0 → ⊥) where
      start : EndsVector t names end → Start t names (end - 1) left
      start v = h.starts.starts (end - 1) (omega arith) (right_ends t names end v k g)

      pub left_small : left < end - 1
      left_small = h.starts.before (end - 1) (omega arith) (omega arith)

      pub none_left : left ≡ 0 → CountBy t names end 0
      none_left z =
          record {
            few = omega arith;
            given = λ v. absurd (omega (arith, vector_pos t names left (ends_left t names end v (start v) k g)));
          }

      module _ (o : left ≡ 0 → ⊥) where
        abbrev n : ℕ
        n = get_or notes (left - 1) 0

        abbrev m : ℕ
        m = get_or notes (end - 1 - 1) 0

        pub left_few : n ≤ 65
        left_few = let l = left_small in h.counts.few left (omega arith) (omega arith)

        pub condition_count : b ≡ 56 → CountBy t names end n
        condition_count e =
            let l = left_small in
            record {
              few = left_few;
              given = λ v.
                  let c = condition_is t names end v (start v) e in
                  condition_number t names end c (h.counts.counts left (omega arith) c.left);
            }

        module _ (i : b ≡ 56 → ⊥) where
          both : EndsVector t names end → Joined t names end left
          both v = join_is t names end v (start v) k i g

          pub none_below : b < 50 → CountBy t names end 0
          none_below l = record { few = omega arith; given = λ v. absurd (omega (arith, (both v).low)) }

          pub none_above : 57 < b → CountBy t names end 0
          none_above l = record { few = omega arith; given = λ v. absurd (omega (arith, (both v).high)) }

          pub join_asked : 50 ≤ b → b ≤ 57 → Counts b n m
          join_asked x y =
              record { joins = x; no_more = omega arith; left = left_few; right = right_few f }

          pub join_count : {r : ℕ} → r ≡ min 65 (count_of (join_at (b - 50)) n m) → CountBy t names end r
          join_count e =
              let l = left_small in
              record {
                few = omega arith;
                given = λ v.
                    let j = both v in
                    join_number t names end j (h.counts.counts left (omega arith) j.left)
                    (h.counts.counts (end - 1) (omega arith) j.right) e;
              }
