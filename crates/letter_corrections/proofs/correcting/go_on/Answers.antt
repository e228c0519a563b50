-- `correcting::go_on` meets its contract.
use mathlib.Core.Logic.{inl, inr}
use Rattle.letter_corrections.proofs.Decimals.{no_digit, gone_small, gone_large}
use Rattle.letter_corrections.proofs.correcting.go_on.Goals as goal

pub returns-then-b-lt48 : goal.returns-then-b-lt48
returns-then-b-lt48 c = no_digit _ _ (inl c.if-b-lt48.true)

pub returns-then-b-gt57 : goal.returns-then-b-gt57
returns-then-b-gt57 c = no_digit _ _ (inr c.if-b-gt57.true)

pub returns-then-m-lt65536 : goal.returns-then-m-lt65536
returns-then-m-lt65536 c = gone_small _ c.if-b-lt48.false c.if-b-gt57.false c.if-m-lt65536.true

pub returns : goal.returns
returns c = gone_large _ c.if-b-lt48.false c.if-b-gt57.false c.if-m-lt65536.false
