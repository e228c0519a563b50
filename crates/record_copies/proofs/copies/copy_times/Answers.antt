use native.Mathlib.Omega.{arith}
use borrow.Author.Rules.{rules}
use mathlib.Core.Path.{◌≡◌}
use Rattle.basics.proofs.PartByPart.{put_none, put_length, put_front}
use Rattle.record_copies.specs.HeldLists.{times_of}
use Rattle.record_copies.proofs.Copying.{row_marked, time_fits, times_put, times_length}
use Rattle.record_copies.proofs.copies.copy_times.Goals as goal
use Rattle.record_copies.proofs.copies.copy_times.Goals.{then-w-eq4, else-w-eq4}

pub loop-r-init : goal.loop-r-init
unfolding times_of
loop-r-init c = (search rules, c.requires.there, put_none)

pub width_at-w-requires : goal.width_at-w-requires
width_at-w-requires c = row_marked _ _ _ c.requires.rows _ _ c.loop-r-test.true c.loop-r.invariant.1

pub copy_time-q-requires : goal.copy_time-q-requires
copy_time-q-requires c =
    time_fits _ _ _ c.requires.rows _ c.loop-r.invariant.1 (rw c.if-w-eq4.true at c.width_at-w.ensures)
    c.loop-r.invariant.2 c.loop-r-test.true c.requires.room

pub copy_time-q-requires-else-w-eq4 : goal.copy_time-q-requires-else-w-eq4
copy_time-q-requires-else-w-eq4 c =
    time_fits _ _ _ c.requires.rows _ c.loop-r.invariant.1 c.width_at-w.ensures c.loop-r.invariant.2
    c.loop-r-test.true c.requires.room

pub loop-r-preserved : goal.loop-r-preserved
loop-r-preserved c =
    elim c.if-w-eq4.branch [
      | then-w-eq4 w ↦
          let width = rw w.if-w-eq4.true at c.width_at-w.ensures in
          let next = times_put _ _ _ c.requires.rows _ c.loop-r.invariant.1 width c.loop-r.invariant.2
          w.copy_time-q.ensures in
          rw (w.q-is, w.out-is) (search rules, next.0, next.1)
      | else-w-eq4 w ↦
          let next = times_put _ _ _ c.requires.rows _ c.loop-r.invariant.1 c.width_at-w.ensures c.loop-r.invariant.2
          w.copy_time-q-else-w-eq4.ensures in
          rw (w.q-is, w.out-is) (search rules, next.0, next.1)
    ]

pub shape_of-out : goal.shape_of-out
shape_of-out c = put_length c.loop-r.invariant.2

pub returns : goal.returns
returns c =
    let all : c.loop-r.r ≡ c.args.n = omega arith in
    put_front (rw all at c.loop-r.invariant.2)
    (omega (arith, times_length _ _ _ c.requires.rows c.args.n, c.requires.room))
