use native.Mathlib.Omega.{arith}
use Rattle.blocks.proofs.Trying.{walking_first, alternative_asked, take_asked, passing}
use Rattle.blocks.proofs.Trying.{walking_next, walking_end}
use Rattle.blocks.proofs.meeting.match_block.Goals as goal

pub loop-k-init : goal.loop-k-init
loop-k-init c = walking_first c.requires

pub meet_steps-requires : goal.meet_steps-requires
meet_steps-requires c = alternative_asked c.requires c.loop-k.invariant c.loop-k-test.true

pub take-requires : goal.take-requires
take-requires c = take_asked c.requires c.loop-k.invariant c.loop-k-test.true c.meet_steps.ensures

pub pass-t-requires : goal.pass-t-requires
pass-t-requires c = passing c.requires c.loop-k.invariant c.loop-k-test.true (omega (arith, c.well_formed))

pub overflow_add-s : goal.overflow_add-s
overflow_add-s c =
    omega (
      arith,
      (alternative_asked c.requires c.loop-k.invariant
          c.loop-k-test.true).there,
      c.well_formed,
    )

pub loop-k-preserved : goal.loop-k-preserved
loop-k-preserved c =
    walking_next c.requires c.loop-k.invariant c.loop-k-test.true c.meet_steps.ensures
    c.take.ensures c.pass-t.ensures

pub shape_of-acc : goal.shape_of-acc
shape_of-acc c = c.loop-k.invariant.acc_long

pub shape_of-best : goal.shape_of-best
shape_of-best c = c.loop-k.invariant.best_long

pub shape_of-tries : goal.shape_of-tries
shape_of-tries c = c.loop-k.invariant.tries_long

pub returns : goal.returns
returns c = walking_end c.requires c.loop-k.invariant c.loop-k-test.false
