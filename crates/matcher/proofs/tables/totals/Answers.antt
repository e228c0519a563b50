use mathlib.Core.Path.{◌∙◌}
use native.Mathlib.Omega.{arith}
use lib.Dec.{eqb}
use Rattle.matcher.proofs.Filling.{row_asked, counting_first, counting_next}
use Rattle.matcher.proofs.Filling.{counting_end, counted_small, number_of_bool}
use Rattle.basics.proofs.Counts.{one_small}
use Rattle.matcher.proofs.tables.totals.Goals as goal

pub loop-i-init : goal.loop-i-init
loop-i-init c = counting_first

pub number_at-a-requires : goal.number_at-a-requires
number_at-a-requires c = row_asked _ c.requires c.loop-i-test.true

pub overflow_add-yes : goal.overflow_add-yes
overflow_add-yes c =
    let s = counted_small c.loop-i.invariant in
    omega (arith, c.from-yes.ensures ∙ number_of_bool _, one_small (eqb c.number_at-a.result 1), c.requires.rows.few)

pub overflow_add-no : goal.overflow_add-no
overflow_add-no c =
    let s = counted_small c.loop-i.invariant in
    omega (arith, c.from-no.ensures ∙ number_of_bool _, one_small (eqb c.number_at-a.result 0), c.requires.rows.few)

pub overflow_add-unknown : goal.overflow_add-unknown
overflow_add-unknown c =
    let s = counted_small c.loop-i.invariant in
    omega (arith, c.from-unknown.ensures ∙ number_of_bool _, one_small (eqb c.number_at-a.result 2), c.requires.rows.few)

pub loop-i-preserved : goal.loop-i-preserved
loop-i-preserved c =
    counting_next c.loop-i.invariant _ c.loop-i-test.true c.number_at-a.ensures (c.from-yes.ensures ∙ number_of_bool _)
    (c.from-no.ensures ∙ number_of_bool _) (c.from-unknown.ensures ∙ number_of_bool _)

pub returns : goal.returns
returns c = counting_end c.loop-i.invariant c.loop-i-test.false
