-- `put_share` meets its contract.
use native.Mathlib.Omega.{arith}
use Rattle.figures.proofs.ShareParts.{share_none, share_some}
use Rattle.figures.proofs.shares.put_share.Goals as goal

pub push-requires : goal.push-requires
push-requires c =
    let r = rw (share_none c.args.yes c.args.n c.if-n-le1.true) at c.requires in
    omega arith

pub returns-then-n-le1 : goal.returns-then-n-le1
returns-then-n-le1 c = rw (share_none c.args.yes c.args.n c.if-n-le1.true) c.push.ensures

pub millionths_of-requires : goal.millionths_of-requires
millionths_of-requires c =
    record { few = c.ranges.yes.fits; small = omega (arith, c.ranges.n.fits); some = omega (arith, c.if-n-le1.false) }

pub put_point-requires : goal.put_point-requires
put_point-requires c =
    rw c.millionths_of.ensures (rw (share_some c.args.yes c.args.n c.if-n-le1.false) at c.requires)

pub returns : goal.returns
returns c =
    rw (share_some c.args.yes c.args.n c.if-n-le1.false, ← c.millionths_of.ensures)
    c.put_point.ensures
