-- `rank_at` gives the next token's rank.
use borrow.Author.Rules.{rules}
use Rattle.parser_steps.proofs.SingleSteps.{ranked_token, ranked_end, ranked_off}
use Rattle.parser_steps.proofs.cursor.rank_at.Goals as goal

pub returns-then-at-codes : goal.returns-then-at-codes
returns-then-at-codes c = ranked_token _ _ c.if-s.true c.if-at-codes.true c.rank_of.ensures

pub returns-else-at-codes : goal.returns-else-at-codes
returns-else-at-codes c = ranked_end _ _ c.if-s.true (search rules)

pub returns-else-s : goal.returns-else-s
returns-else-s c = ranked_off _ _ c.if-s.false
