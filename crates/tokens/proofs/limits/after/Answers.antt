-- `after` says what a token changes: each way out by its own law.
use native.Mathlib.Omega.{arith}
use Rattle.tokens.proofs.Counts.{opens, closes_none, closes, leaves, uncounted, counts}
use Rattle.tokens.proofs.limits.after.Goals as goal

pub returns-then-code-eq62 : goal.returns-then-code-eq62
returns-then-code-eq62 c = opens _ _ c.if-brackets.true c.if-code-eq62.true

pub returns-then-n-eq0 : goal.returns-then-n-eq0
returns-then-n-eq0 c =
    closes_none _ _ c.if-brackets.true c.if-code-eq62.false c.if-code-eq63.true
    c.if-n-eq0.true

pub returns-then-code-eq63 : goal.returns-then-code-eq63
returns-then-code-eq63 c = closes _ _ c.if-brackets.true c.if-code-eq62.false c.if-code-eq63.true

pub returns-then-brackets : goal.returns-then-brackets
returns-then-brackets c = leaves _ _ c.if-brackets.true c.if-code-eq62.false c.if-code-eq63.false

pub returns-then-code-lt61 : goal.returns-then-code-lt61
returns-then-code-lt61 c =
    counts _ _ c.if-brackets.false (λ e. omega arith) (λ e. omega arith) (λ e. omega arith)

pub returns-then-code-le63 : goal.returns-then-code-le63
returns-then-code-le63 c = uncounted _ _ c.if-brackets.false c.if-code-lt61.false c.if-code-le63.true

pub returns : goal.returns
returns c = counts _ _ c.if-brackets.false (λ e. omega arith) (λ e. omega arith) (λ e. omega arith)
