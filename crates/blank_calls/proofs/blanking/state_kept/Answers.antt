-- `blanking::state_kept` meets its contract.
use mathlib.Core.Path.{refl}
use borrow.Author.Tests.{eq-eqb, ne_eqb}
use Rattle.blank_calls.specs.Blanking.{state_kept}
use Rattle.blank_calls.proofs.blanking.state_kept.Goals as goal

pub returns-then-kept-eq0 : goal.returns-then-kept-eq0
unfolding state_kept
returns-then-kept-eq0 c = rw (eq-eqb c.args.kept 0 c.if-kept-eq0.true) refl

pub returns : goal.returns
unfolding state_kept
returns c = rw (ne_eqb c.args.kept 0 c.if-kept-eq0.false) refl
