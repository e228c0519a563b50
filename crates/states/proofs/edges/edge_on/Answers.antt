-- `edges::edge_on_lem` meets its contract: two halves, `?!` or `?-`, by the number of the edge.
use borrow.Author.Tests.{eq-eqb, ne_eqb}
use mathlib.Core.Path.{refl}
use Rattle.alf.specs.Windows.{edge_on}
use Rattle.alf.proofs.EdgeNumbers.{edge_pair, edge_changes, edge_stays}
use Rattle.states.proofs.edges.edge_on.Goals as goal

pub returns-then-k-lt81 : goal.returns-then-k-lt81
unfolding edge_on
returns-then-k-lt81 c =
    let first = c.ask.ensures in
    let second = c.ask-then-k-lt81.ensures in
    rw (edge_pair _ c.if-k-lt81.true, ← first, ← second) (cc)

pub returns-then-x-y : goal.returns-then-x-y
unfolding edge_on
returns-then-x-y c = rw (edge_changes _ c.if-k-eq81.true, eq-eqb _ _ c.if-x-y.true) refl

pub returns-then-k-eq81 : goal.returns-then-k-eq81
unfolding edge_on
returns-then-k-eq81 c = rw (edge_changes _ c.if-k-eq81.true, ne_eqb _ _ c.if-x-y.false) refl

pub returns-then-x-y-2 : goal.returns-then-x-y-2
unfolding edge_on
returns-then-x-y-2 c =
    rw (edge_stays _ c.if-k-lt81.false c.if-k-eq81.false, eq-eqb _ _ c.if-x-y-2.true) refl

pub returns-else-x-y-2 : goal.returns-else-x-y-2
unfolding edge_on
returns-else-x-y-2 c =
    rw (edge_stays _ c.if-k-lt81.false c.if-k-eq81.false, ne_eqb _ _ c.if-x-y-2.false) refl
