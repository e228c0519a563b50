use native.Mathlib.Omega.{arith}
use borrow.Author.Rules.{rules}
use mathlib.Core.Path.{◌≡◌}
use Prim.Native.Nat.{◌+◌, ◌≤◌}
use lib.ListN.{length}
use Rattle.basics.proofs.PartByPart.{put_none, put_length, put_front}
use Rattle.record_copies.specs.HeldLists.{states_of}
use Rattle.record_copies.proofs.Copying.{
  row_marked,
  row_there,
  row_next,
  codes_fit,
  states_put,
  states_length,
}
use Rattle.record_copies.proofs.copies.copy_states.Goals as goal
use Rattle.record_copies.proofs.copies.copy_states.Goals.{After-width_at-w, then-w-eq4, else-w-eq4}

-- the row where the turn stands, behind the width that was read
there : (c : After-width_at-w) →
    c.loop-r.q + 2 + c.width_at-w.result + c.args.k
    ≤ length c.args.file.now
there c =
    row_there _ _ _ c.requires.rows _ c.loop-r.invariant.1 c.width_at-w.ensures c.loop-r-test.true

pub loop-r-init : goal.loop-r-init
unfolding states_of
loop-r-init c = (search rules, c.requires.there, put_none)

pub width_at-w-requires : goal.width_at-w-requires
width_at-w-requires c = row_marked _ _ _ c.requires.rows _ _ c.loop-r-test.true c.loop-r.invariant.1

pub copy_codes-to-requires : goal.copy_codes-to-requires
copy_codes-to-requires c =
    codes_fit _ _ _ c.requires.rows _ c.loop-r.invariant.1 (rw c.if-w-eq4.true at c.width_at-w.ensures)
    c.loop-r.invariant.2 c.loop-r-test.true c.requires.room

pub overflow_add-q : goal.overflow_add-q
overflow_add-q c = omega (arith, c.if-w-eq4.true, there (goal.at.overflow_add-q c).After-width_at-w)

pub overflow_add-q-then-w-eq4 : goal.overflow_add-q-then-w-eq4
overflow_add-q-then-w-eq4 c =
    omega (arith, c.if-w-eq4.true, there (goal.at.overflow_add-q-then-w-eq4 c).After-width_at-w)

pub copy_codes-to-requires-else-w-eq4 : goal.copy_codes-to-requires-else-w-eq4
copy_codes-to-requires-else-w-eq4 c =
    codes_fit _ _ _ c.requires.rows _ c.loop-r.invariant.1 c.width_at-w.ensures c.loop-r.invariant.2
    c.loop-r-test.true c.requires.room

pub overflow_add-q-else-w-eq4 : goal.overflow_add-q-else-w-eq4
overflow_add-q-else-w-eq4 c = omega (arith, there (goal.at.overflow_add-q-else-w-eq4 c).After-width_at-w)

pub overflow_add-q-else-w-eq4-2 : goal.overflow_add-q-else-w-eq4-2
overflow_add-q-else-w-eq4-2 c = omega (arith, there (goal.at.overflow_add-q-else-w-eq4-2 c).After-width_at-w)

pub overflow_add-q-else-w-eq4-3 : goal.overflow_add-q-else-w-eq4-3
overflow_add-q-else-w-eq4-3 c = omega (arith, there (goal.at.overflow_add-q-else-w-eq4-3 c).After-width_at-w)

pub loop-r-preserved : goal.loop-r-preserved
loop-r-preserved c =
    elim c.if-w-eq4.branch [
      | then-w-eq4 w ↦
          let width = rw w.if-w-eq4.true at c.width_at-w.ensures in
          rw (w.q-is, w.out-is, w.to-is) (
            search rules,
            omega (arith, row_next _ _ _ c.requires.rows _ c.loop-r.invariant.1 width),
            states_put _ _ _ c.requires.rows _ c.loop-r.invariant.1 width c.loop-r.invariant.2 w.copy_codes-to.ensures,
          )
      | else-w-eq4 w ↦
          let width = c.width_at-w.ensures in
          rw (w.q-is, w.out-is, w.to-is) (
            search rules,
            row_next _ _ _ c.requires.rows _ c.loop-r.invariant.1 width,
            states_put _ _ _ c.requires.rows _ c.loop-r.invariant.1 width c.loop-r.invariant.2
                w.copy_codes-to-else-w-eq4.ensures,
          )
    ]

pub shape_of-out : goal.shape_of-out
shape_of-out c = put_length c.loop-r.invariant.2

pub returns : goal.returns
returns c =
    let all : c.loop-r.r ≡ c.args.n = omega arith in
    put_front (rw all at c.loop-r.invariant.2)
    (omega (arith, states_length _ _ _ c.requires.rows c.args.n (omega arith), c.requires.room))
