-- `mark_of` meets its contract, range by range.
use Rattle.spelling.proofs.Tables.{mark_low, mark_middle, mark_high}
use native.Mathlib.Omega.{arith}
use Rattle.spelling.proofs.spells.mark_of.Goals as goal

pub returns-then-k-lt60 : goal.returns-then-k-lt60
returns-then-k-lt60 c = mark_low _ c.if-k-lt60.true

pub returns-then-k-lt64 : goal.returns-then-k-lt64
returns-then-k-lt64 c = mark_middle _ c.if-k-lt60.false c.if-k-lt64.true

pub returns-then-k-lt127 : goal.returns-then-k-lt127
returns-then-k-lt127 c = omega (arith, mark_high c.args.c c.if-k-lt64.false)

pub returns : goal.returns
returns c = mark_high _ c.if-k-lt64.false
