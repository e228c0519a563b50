-- `eat` passes a token of that rank, or stops.
use borrow.Author.Rules.{rules}
use native.Mathlib.Omega.{arith}
use Rattle.parser_steps.proofs.SingleSteps.{eat_hit, eat_miss}
use Rattle.parser_steps.proofs.cursor.eat.Goals as goal

pub step-requires : goal.step-requires
step-requires c = omega (arith, (c.rank_at.ensures.here (omega arith)).left)

pub returns-then-rank_at-rank : goal.returns-then-rank_at-rank
returns-then-rank_at-rank c =
    eat_hit c.requires.fine c.rank_at.ensures c.if-rank_at-rank.true (search rules)
    c.step.ensures

pub returns : goal.returns
returns c = eat_miss c.requires.fine c.rank_at.ensures c.if-rank_at-rank.false c.stop.ensures
