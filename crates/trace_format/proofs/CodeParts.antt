-- A part of a list of codes: where the first code above 7 stands in it, and so in the whole.
--   found_in_part   counted from the part's start, that place is the one from the start to the end of the part
use mathlib.Core.Path.{◌≡◌, ap, ◌∙◌}
use mathlib.Core.List.{List}
use Prim.Native.Nat.{ℕ, ◌+◌, ◌-◌, ◌<◌, ◌≤◌}
use native.Mathlib.Omega.{arith}
use lib.ListN.{length, get_or, take, drop, length-drop}
use lib.Seq.{get_or-take, get_or-drop, length-take-le}
use Rattle.states.specs.FirstBadCode.{FirstBad}
use Rattle.trace_format.specs.Parts.{CodesTo}

module _ (codes : List ℕ) (from to : ℕ) (ordered : from ≤ to) (within : to ≤ length codes) where
  abbrev part : List ℕ
  part = take (to - from) (drop from codes)

  part_long : length part ≡ to - from
  part_long = length-take-le (to - from) (drop from codes) (rw length-drop (omega arith))

  part_entry : (i : ℕ) → i < to - from → get_or part i 0 ≡ get_or codes (from + i) 0
  part_entry i h = get_or-take (to - from) (drop from codes) i 0 h ∙ get_or-drop from codes i 0

  whole_entry : (i : ℕ) → from ≤ i → i < to → get_or part (i - from) 0 ≡ get_or codes i 0
  whole_entry i h l =
      let e : from + (i - from) ≡ i = omega arith in
      part_entry (i - from) (omega arith) ∙ ap (λ (k : ℕ). get_or codes k 0) e

  pub found_in_part : {r : ℕ} → FirstBad part r → CodesTo codes from to (from + r)
  found_in_part {r = r} f =
      record {
        low = omega arith;
        high = omega (arith, part_long, f.within);
        good = λ i h l.
            omega (
              arith,
              whole_entry i h (omega (arith, part_long, f.within)),
              f.before (i - from) (omega arith),
            );
        bad = λ l. omega (arith, part_entry r (omega arith), f.there (omega (arith, part_long)));
      }
