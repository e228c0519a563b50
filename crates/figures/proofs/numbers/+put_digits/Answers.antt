-- `put_digits` meets its contract, by recursion on k: all digits but the last, and the last.
use native.Mathlib.Omega.{arith}
use Rattle.figures.proofs.DigitByDigit.{none_put, digits_room, digits_push, digits_put}
use Rattle.figures.proofs.numbers.+put_digits.Goals as goal

pub returns-then-k-eq0 : goal.returns-then-k-eq0
returns-then-k-eq0 t c = none_put _ c.if-k-eq0.true

pub put_digits-p-requires : goal.put_digits-p-requires
put_digits-p-requires t c =
    let h = c.if-k-eq0.false in
    (omega arith, digits_room c.args.n c.args.out.now c.args.at h c.requires)

pub push-requires : goal.push-requires
push-requires t c =
    digits_push c.args.n c.args.out.now c.args.at c.if-k-eq0.false c.requires c.put_digits-p.ensures

pub returns : goal.returns
returns t c =
    digits_put c.args.n c.args.out.now c.args.at c.if-k-eq0.false c.requires
    c.put_digits-p.ensures c.last_digit.ensures c.push.ensures
