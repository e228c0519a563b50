-- `is_time` meets its contract.
use Rattle.basics.specs.Text.{bytes}
use Rattle.text_heads.proofs.SameWords.{same_is}
use Rattle.text_heads.proofs.heads.is_time.Goals as goal

pub returns : goal.returns
unfolding bytes
returns c = same_is _ _ c.same.ensures.0 c.same.ensures.1
