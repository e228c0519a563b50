-- `names_fit` meets its contract.
use mathlib.Core.Path.{◌≡◌, refl}
use native.Mathlib.Omega.{arith}
use Rattle.rewriting_calls.proofs.Calls.{no_names, some_names_lem}
use Rattle.rewriting_calls.proofs.names_fit.Goals as goal

pub returns-then-names-gt0 : goal.returns-then-names-gt0
returns-then-names-gt0 c = some_names_lem _ (λ e. omega (arith, e, c.if-names-gt0.true))

pub returns-else-names-gt0 : goal.returns-else-names-gt0
returns-else-names-gt0 c =
    let e : c.args.names ≡ 0 = omega (arith, c.if-names-gt0.false) in
    rw e (no_names refl)
