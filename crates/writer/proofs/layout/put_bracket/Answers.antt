-- `put_bracket` writes the bracket where it is needed, and else nothing.
use native.Mathlib.Omega.{arith}
use mathlib.Core.Path.{refl, ap}
use lib.ListN.{length}
use Rattle.writer.proofs.Tables.{bracket_none, bracket_some}
use Rattle.writer.proofs.layout.put_bracket.Goals as goal

pub returns-then-m-level : goal.returns-then-m-level
returns-then-m-level c =
    rw (bracket_none _ c.if-m-level.true) (record { bytes = refl; next = omega arith })

pub push-requires : goal.push-requires
push-requires c = omega (arith, ap length (bracket_some c.args.b c.if-m-level.false))

pub returns : goal.returns
returns c = rw (bracket_some _ c.if-m-level.false) c.push.ensures
