use mathlib.Core.Path.{refl}
use native.Mathlib.Omega.{arith}
use Rattle.evaluator.proofs.Traces.{earlier_row}
use Rattle.answer_table.proofs.Cells.{states_first, states_next}
use Rattle.answer_table.proofs.columns.column.Goals as goal

pub loop-i-init : goal.loop-i-init
loop-i-init c = (omega arith, states_first refl)

pub overflow_add-first : goal.overflow_add-first
overflow_add-first c = omega (arith, c.requires.rows.last.few)

pub state-requires : goal.state-requires
state-requires c = record {
  ends_boolean = c.requires.ends_boolean;
  within = earlier_row _ (omega arith) c.requires.rows.last;
}

pub bounds-list-i : goal.bounds-list-i
bounds-list-i c = omega (arith, c.requires.rows.most)

pub loop-i-preserved : goal.loop-i-preserved
loop-i-preserved c =
    (omega arith, states_next c.loop-i.invariant.1 (omega (arith, c.requires.rows.most)) c.state.ensures)

pub returns : goal.returns
returns c =
    let l = c.loop-i.invariant.1 in
    record { is = λ j k. l.is j (omega arith); long = l.long }
