-- The pins of a part, counted as those entries of its row in the table that are none of 0.
--   part_counted     how many entries of a part of a list pass a test
--   pins_counted
use Rattle.std.specs.List.{count_by}
use Rattle.std.proofs.lemmas.List.{get_or-drop}
use Rattle.std.proofs.lemmas.List.Sums.{count_by_more_yes, count_by_more_no}
use Rattle.std.proofs.Common.{length-drop}
use Prim.Native.Nat.{ℕ, zero, suc, ◌+◌, ◌-◌, ◌*◌, ◌<◌, ◌≤◌}
use native.Mathlib.Omega.{arith}
use mathlib.Core.Path.{◌≡◌, refl, ap, ◌∙◌}
use mathlib.Core.Bool.{Bool, true, false, not}
use mathlib.Core.List.{List}
use lib.Dec.{eqb}
use lib.ListN.{length, take, drop, get_or}
use Rattle.basics.specs.Words.{count}
use Rattle.basics.proofs.Counts.{count_small}
use Rattle.steady_pins.specs.Pinned.{pin_at}
use Rattle.steady_pins.specs.Entries.{Entries, PinNumber}

pub part_counted : (p : ℕ → Bool) (xs : List ℕ) (o n : ℕ) → o + n ≤ length xs
    → count_by p (take n (drop o xs)) ≡ count n (λ k. p (get_or xs (o + k) 0))
unfolding count
part_counted p xs o zero h = refl
part_counted p xs o (suc n) h = go (p (get_or xs (o + n) 0)) refl (part_counted p xs o n (omega arith))
  where
    inside : n < length (drop o xs)
    inside = rw length-drop (omega arith)

    go : (q : Bool) → p (get_or xs (o + n) 0) ≡ q
        → count_by p (take n (drop o xs)) ≡ count n (λ k. p (get_or xs (o + k) 0))
        → count_by p (take (suc n) (drop o xs)) ≡ count (suc n) (λ k. p (get_or xs (o + k) 0))
    go true e r =
        let v : n + 1 ≡ suc n = omega arith in
        let u = rw v at (count_by_more_yes p (drop o xs) n 0 inside (rw get_or-drop e)) in
        u ∙ ap (λ (k : ℕ). k + 1) r ∙ rw e refl
    go false e r =
        let v : n + 1 ≡ suc n = omega arith in
        let u = rw v at (count_by_more_no p (drop o xs) n 0 inside (rw get_or-drop e)) in
        u ∙ r ∙ rw e (omega arith)

pub pins_counted : {pins : List ℕ} {end n : ℕ} → Entries pins end
    → n ≡ count_by (λ x. not (eqb x 0)) (take 32 (drop ((end - 1) * 32) pins)) → PinNumber pins end n
pins_counted {pins} {end} {n} h e =
    let d = part_counted (λ x. not (eqb x 0)) pins ((end - 1) * 32) 32 (omega (arith, h.long, h.some, h.few)) in
    record { is = e ∙ d; few = omega (arith, e, d, count_small 32 (λ k. not (eqb (pin_at pins end k) 0))) }
