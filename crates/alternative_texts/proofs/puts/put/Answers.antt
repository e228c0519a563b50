use native.Mathlib.Omega.{arith}
use Rattle.basics.proofs.PartByPart.{put_length}
use Rattle.alternative_texts.proofs.Clipped.{put_none, put_countable, put_more, put_all}
use Rattle.alternative_texts.proofs.puts.put.Goals as goal

pub loop-i-init : goal.loop-i-init
loop-i-init c = (omega arith, put_none)

pub push-p-requires : goal.push-p-requires
push-p-requires c = put_countable _ _ c.requires c.loop-i-test.true c.loop-i.invariant.1

pub loop-i-preserved : goal.loop-i-preserved
loop-i-preserved c =
    (omega arith, put_more _ _ c.loop-i-test.true c.loop-i.invariant.1 c.push-p.ensures)

pub shape_of-out : goal.shape_of-out
shape_of-out c = put_length c.loop-i.invariant.1

pub returns : goal.returns
returns c = put_all _ _ c.loop-i-test.false c.loop-i.invariant.1
