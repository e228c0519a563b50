use Prim.Native.Nat.{◌+◌, ◌-◌}
use mathlib.Core.Path.{◌≡◌}
use native.Mathlib.Omega.{arith}
use Rattle.acceptance.proofs.Noting.{pass_first, pass_next, pass_end, pass_none}
use Rattle.acceptance.proofs.notes.start_by.Goals as goal

pub overflow_sub-at : goal.overflow_sub-at
overflow_sub-at c = omega (arith, c.requires.some)

pub bounds-tree-at : goal.bounds-tree-at
bounds-tree-at c = omega (arith, c.requires.some, c.requires.within)

pub loop-init : goal.loop-init
loop-init c =
    let e : c.arity-need.result - 0 ≡ c.arity-need.result = omega arith in
    rw e (pass_first c.requires c.arity-need.ensures)

pub returns-then-at-eq0 : goal.returns-then-at-eq0
returns-then-at-eq0 c = pass_none c.requires c.loop.invariant (omega arith) c.if-at-eq0.true

pub overflow_add-at : goal.overflow_add-at
overflow_add-at c = omega (arith, c.loop.invariant.below, c.requires.fits)

pub bounds-notes-at : goal.bounds-notes-at
bounds-notes-at c = omega (arith, c.loop.invariant.below, c.requires.fits, c.requires.starts.long)

pub overflow_cast-at : goal.overflow_cast-at
overflow_cast-at c =
    omega (
      arith,
      (pass_next c.requires _ _ c.loop.invariant (omega arith) c.if-at-eq0.false).below,
      c.requires.fits,
    )

pub loop-preserved : goal.loop-preserved
loop-preserved c =
    let e : c.arity-need.result - c.loop.counter - 1 ≡ c.arity-need.result - (c.loop.counter + 1) = omega arith in
    rw e at (pass_next c.requires _ _ c.loop.invariant (omega arith) c.if-at-eq0.false)

pub returns : goal.returns
returns c = pass_end c.requires c.loop.invariant (omega (arith, c.loop-test.false))
