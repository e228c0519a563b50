-- `is_changed` meets its contract.
use Rattle.trace_texts.specs.Texts.{is_changed}
use Rattle.basics.specs.Text.{bytes}
use Rattle.text_heads.proofs.SameWords.{same_is}
use Rattle.text_heads.proofs.counts.is_changed.Goals as goal

pub returns : goal.returns
unfolding is_changed bytes
returns c = same_is _ _ c.same.ensures.0 c.same.ensures.1
