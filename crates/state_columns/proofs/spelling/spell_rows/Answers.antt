use mathlib.Core.Path.{refl}
use native.Mathlib.Omega.{arith}
use Rattle.state_columns.proofs.Stating.{stating_first, stating_length, stating_next, stating_end}
use Rattle.state_columns.proofs.SpeltParts.{stated_spelt}
use Rattle.state_columns.proofs.spelling.spell_rows.Goals as goal

pub overflow_mul-o : goal.overflow_mul-o
overflow_mul-o c = omega (arith, c.requires.room, c.well_formed)

pub loop-i-init : goal.loop-i-init
loop-i-init c = stating_first

pub overflow_add-lo : goal.overflow_add-lo
overflow_add-lo c = omega (arith, c.requires.few)

pub state-requires : goal.state-requires
state-requires c = record {
  ends_boolean = c.requires.ends;
  within = c.requires.rows c.loop-i.i c.loop-i-test.true;
}

pub overflow_add-parts : goal.overflow_add-parts
overflow_add-parts c = omega (arith, c.requires.room, c.requires.wide, c.well_formed)

pub bounds-parts-o : goal.bounds-parts-o
bounds-parts-o c = omega (arith, stating_length c.loop-i.invariant, c.requires.room, c.requires.wide)

pub loop-i-preserved : goal.loop-i-preserved
loop-i-preserved c = stating_next c.loop-i.invariant c.loop-i-test.true c.state.ensures

pub shape_of-parts : goal.shape_of-parts
shape_of-parts c = stating_length c.loop-i.invariant

pub returns : goal.returns
returns c = stated_spelt c.requires _ (stating_end c.loop-i.invariant c.loop-i-test.false) (λ i h. refl)
