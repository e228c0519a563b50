-- `fill` meets its contract.
use native.Mathlib.Omega.{arith}
use Rattle.trace_format.proofs.RowByRow.{codes_bound}
use Rattle.text_reading.proofs.Outcomes.{few_both, names_fit_lem, rows_fit}
use Rattle.text_reading.proofs.Rooms.{short_names, short_times, short_states, filled}
use Rattle.text_reading.proofs.reading.fill.Goals as goal

pub behind_line-behind-requires : goal.behind_line-behind-requires
behind_line-behind-requires c = c.next_line-h.ensures.within

pub overflow_mul-slots : goal.overflow_mul-slots
overflow_mul-slots c =
    omega (arith, (few_both c.requires c.next_line-h.ensures c.behind_line-behind.ensures).0)

pub overflow_mul-codes : goal.overflow_mul-codes
overflow_mul-codes c =
    let few = few_both c.requires c.next_line-h.ensures c.behind_line-behind.ensures in
    omega (arith, codes_bound few.1 few.0)

pub returns-then-names-slots : goal.returns-then-names-slots
returns-then-names-slots c = short_names c.requires _ _ _ c.refuse.ensures c.if-names-slots.true

pub returns-then-times-n : goal.returns-then-times-n
returns-then-times-n c =
    short_times c.requires _ _ _ c.if-names-slots.false c.refuse-then-times-n.ensures c.if-times-n.true

pub returns-then-states-codes : goal.returns-then-states-codes
returns-then-states-codes c =
    short_states c.requires _ _ _ c.if-names-slots.false c.if-times-n.false c.refuse-then-states-codes.ensures
    c.if-states-codes.true

pub copy_names-requires : goal.copy_names-requires
copy_names-requires c =
    names_fit_lem c.requires c.next_line-h.ensures c.behind_line-behind.ensures c.if-names-slots.false

pub copy_rows-requires : goal.copy_rows-requires
copy_rows-requires c =
    rows_fit c.requires c.next_line-h.ensures c.behind_line-behind.ensures
    c.if-times-n.false c.if-states-codes.false

pub returns : goal.returns
returns c =
    filled c.requires _ _ _ c.if-names-slots.false c.if-times-n.false c.if-states-codes.false
    c.next_line-h.ensures c.behind_line-behind.ensures c.copy_names.ensures
    c.copy_rows.ensures
