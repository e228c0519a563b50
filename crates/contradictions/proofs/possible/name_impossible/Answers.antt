use Rattle.std.proofs.Common.{ap}
use Rattle.std.proofs.Math.Bool.{not}
use native.Mathlib.Omega.{arith}
use Rattle.contradictions.proofs.RowsOf.{rowing_first, rowing_found, rowing_next, rowing_last}
use Rattle.contradictions.proofs.RowsOf.{row_there, row_last}
use Rattle.contradictions.proofs.possible.name_impossible.Goals as goal

pub loop-j-init : goal.loop-j-init
loop-j-init c = rowing_first _ _ _ _ _ _

pub row_possible-requires : goal.row_possible-requires
row_possible-requires c =
    let h = c.requires in
    row_there h.0 h.1 c.loop-j.invariant c.loop-j-test.true

pub returns-then-not-row_possible : goal.returns-then-not-row_possible
returns-then-not-row_possible c =
    let h = c.requires in
    rowing_found _ _ _ _ _ h.0.there c.loop-j.invariant c.loop-j-test.true c.row_possible.ensures
    (ap not c.if-not-row_possible.true)

pub overflow_add-at : goal.overflow_add-at
overflow_add-at c =
    let r = row_last c.requires.0 c.requires.1 c.loop-j.invariant in
    omega (arith, r.there, c.well_formed)

pub loop-j-preserved : goal.loop-j-preserved
loop-j-preserved c =
    let h = c.requires in
    rowing_next _ _ _ _ _ h.0.there c.loop-j.invariant c.loop-j-test.true c.row_possible.ensures
    (ap not c.if-not-row_possible.false)

pub row_possible-requires-2 : goal.row_possible-requires-2
row_possible-requires-2 c =
    let h = c.requires in
    let r = row_last h.0 h.1 c.loop-j.invariant in
    record { known = r.known; there = omega (arith, r.there); a_name = r.a_name }

pub returns : goal.returns
returns c =
    let h = c.requires in
    rowing_last _ _ _ _ _ h.0.there c.loop-j.invariant c.loop-j-test.false c.row_possible-2.ensures
