use native.Mathlib.Omega.{arith}
use borrow.Author.Rules.{rules}
use mathlib.Core.Path.{◌≡◌}
use Prim.Native.Nat.{◌+◌, ◌≤◌}
use Rattle.trace_writer.proofs.Putting.{size_none, size_grow}
use Rattle.trace_writer.proofs.write.rows_size.Goals as goal
use Rattle.trace_writer.proofs.write.rows_size.Goals.{After-width_of}

-- with one row more the size is small
small : (c : After-width_of) →
    c.loop-r.size +
    (2 + c.width_of.result + c.args.k)
    ≤ 2752470
small c =
    let grown = size_grow c.args.times.now c.requires.few_names c.loop-r.invariant.1
    c.width_of.ensures in
    omega (arith, grown.few, c.requires.few, c.loop-r-test.true)

pub loop-r-init : goal.loop-r-init
loop-r-init c = (search rules, size_none _ _)

pub overflow_add-size : goal.overflow_add-size
overflow_add-size c = omega (arith, small (goal.at.overflow_add-size c).After-width_of)

pub overflow_add-size-in-loop-r : goal.overflow_add-size-in-loop-r
overflow_add-size-in-loop-r c = omega (arith, small (goal.at.overflow_add-size-in-loop-r c).After-width_of)

pub overflow_add-size-in-loop-r-2 : goal.overflow_add-size-in-loop-r-2
overflow_add-size-in-loop-r-2 c = omega (arith, small (goal.at.overflow_add-size-in-loop-r-2 c).After-width_of)

pub loop-r-preserved : goal.loop-r-preserved
loop-r-preserved c = (
  search rules,
  size_grow c.args.times.now c.requires.few_names c.loop-r.invariant.1
      c.width_of.ensures,
)

pub returns : goal.returns
returns c =
    let e : c.loop-r.r ≡ c.args.n = omega arith in
    rw e at c.loop-r.invariant.1
