use Prim.Native.Nat.{ℕ, ◌-◌, ◌+◌, ◌*◌}
use mathlib.Core.Path.{◌≡◌, ap, ◌∙◌}
use mathlib.Core.Bool.{not}
use native.Mathlib.Omega.{arith}
use lib.Dec.{eqb}
use lib.ListN.{take, drop}
use lib.Seq.{take_all}
use Rattle.std.specs.List.{count_by}
use Rattle.steady_pins.proofs.PinCounts.{pins_counted}
use Rattle.steady_pins.proofs.counting.pin_count.Goals as goal

pub returns : goal.returns
returns c =
    let b : ℕ = (c.args.end - 1) * 32 in
    let part = take (b + 32 - b) (drop b c.args.pins.now) in
    let d : b + 32 - b ≡ 32 = omega arith in
    let e = c.loop-pin.invariant.0 ∙ ap (count_by (λ x. not (eqb x 0))) (take_all c.loop-pin.pin-index part c.loop-pin-test.false) in
    pins_counted c.requires (rw d at e)
