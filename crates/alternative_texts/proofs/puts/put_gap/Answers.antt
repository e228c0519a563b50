-- `put_gap` meets its contract.
use Rattle.basics.proofs.PartByPart.{put_as}
use mathlib.Core.Path.{sym}
use Rattle.alternative_texts.proofs.Clipped.{put_none, lead_none, lead_some}
use Rattle.alternative_texts.proofs.puts.put_gap.Goals as goal

-- src/puts.rt:38:9
pub returns-then-i-eq0 : goal.returns-then-i-eq0
returns-then-i-eq0 c = put_as (sym (lead_none _ c.if-i-eq0.true)) put_none

-- src/puts.rt:33:1
pub returns : goal.returns
returns c = put_as (sym (lead_some _ _ c.if-i-eq0.false)) c.put.ensures
