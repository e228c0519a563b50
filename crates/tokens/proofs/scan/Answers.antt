use native.Mathlib.Omega.{arith}
use mathlib.Core.Path.{sym, ◌∙◌}
use Rattle.tokens.specs.Inner.Scan.{stopped}
use Rattle.tokens.proofs.Scanning.{scan_start, scan_blank, stop_fits, stop_inside, scan_stop}
use Rattle.tokens.proofs.Scanning.{token_fits, scan_token, scan_end}
use Rattle.tokens.proofs.scan.Goals as goal

pub loop-at-init : goal.loop-at-init
loop-at-init c = scan_start _ c.no_codes-codes.ensures c.no_places-places.ensures

pub loop-at-preserved-then-is_blank : goal.loop-at-preserved-then-is_blank
loop-at-preserved-then-is_blank c =
    scan_blank _ _ c.loop-at-test.true c.loop-at.invariant
    (sym c.is_blank.ensures ∙ c.if-is_blank.true)

pub overflow_add-at-in-Ok : goal.overflow_add-at-in-Ok
overflow_add-at-in-Ok c =
    let inside = token_fits _ _ c.loop-at-test.true c.loop-at.invariant c.in-Ok.ensures in omega arith

pub loop-at-smaller : goal.loop-at-smaller
loop-at-smaller c =
    let inside = token_fits _ _ c.loop-at-test.true c.loop-at.invariant c.in-Ok.ensures in omega arith

pub loop-at-preserved : goal.loop-at-preserved
loop-at-preserved c =
    let unblank = sym c.is_blank.ensures ∙ c.if-is_blank.false in
    scan_token _ _ c.loop-at-test.true c.loop-at.invariant c.in-Ok.ensures unblank c.requires

pub overflow_add-at-in-Err : goal.overflow_add-at-in-Err
overflow_add-at-in-Err c =
    let small = stop_fits _ _ c.loop-at-test.true c.loop-at.invariant c.in-Err.ensures in omega arith

pub refuse_bytes-requires : goal.refuse_bytes-requires
refuse_bytes-requires c = stop_inside _ _ c.loop-at-test.true c.loop-at.invariant c.in-Err.ensures

pub returns-in-Err : goal.returns-in-Err
returns-in-Err c =
    let unblank = sym c.is_blank.ensures ∙ c.if-is_blank.false in
    let stuck = scan_stop _ _ c.loop-at-test.true c.loop-at.invariant c.in-Err.ensures unblank in
    rw c.refuse_bytes.ensures (stopped _ stuck)

pub returns : goal.returns
returns c = scan_end _ c.loop-at-test.false c.loop-at.invariant
