-- `fill` meets its contract.
use native.Mathlib.Omega.{arith}
use Rattle.trace_reader.proofs.AcceptedTraces.{few_names}
use Rattle.trace_reader.proofs.ReadOutcomes.{codes_few, short_names, short_times, short_states}
use Rattle.trace_reader.proofs.ReadOutcomes.{names_fit_lem, rows_fit, filled}
use Rattle.trace_reader.proofs.read.fill.Goals as goal

pub overflow_mul-slots : goal.overflow_mul-slots
overflow_mul-slots c = omega (arith, few_names c.requires)

pub overflow_mul-codes : goal.overflow_mul-codes
overflow_mul-codes c = omega (arith, codes_few c.requires)

pub returns-then-names-slots : goal.returns-then-names-slots
returns-then-names-slots c =
    short_names c.requires _ _ _ c.refuse.ensures
    c.if-names-slots.true

pub returns-then-times-n : goal.returns-then-times-n
returns-then-times-n c =
    short_times c.requires _ _ _ c.if-names-slots.false
    c.refuse-then-times-n.ensures c.if-times-n.true

pub returns-then-states-codes : goal.returns-then-states-codes
returns-then-states-codes c =
    short_states c.requires _ _ _
    c.if-names-slots.false c.if-times-n.false c.refuse-then-states-codes.ensures
    c.if-states-codes.true

pub copy_names-at-requires : goal.copy_names-at-requires
copy_names-at-requires c =
    names_fit_lem c.requires
    c.if-names-slots.false

pub copy_times-requires : goal.copy_times-requires
copy_times-requires c =
    rows_fit c.requires
    c.copy_names-at.ensures.there
    (omega (arith, c.if-times-n.false))

pub copy_states-requires : goal.copy_states-requires
copy_states-requires c = rows_fit c.requires c.copy_names-at.ensures.there c.if-states-codes.false

pub returns : goal.returns
returns c =
    filled c.requires _ _ _
    c.if-names-slots.false c.if-times-n.false c.if-states-codes.false
    (λ i. (c.type_inv.file i).fits)
    c.copy_names-at.ensures.names
    c.copy_times.ensures c.copy_states.ensures
