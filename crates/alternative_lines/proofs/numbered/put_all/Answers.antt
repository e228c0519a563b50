-- `put_all` meets its contract: the heading, then the lines.
use Rattle.basics.specs.Text.{bytes}
use Rattle.alternative_lines.proofs.LineParts.{all_asked, heading_put}
use Rattle.alternative_lines.proofs.numbered.put_all.Goals as goal

pub put_lines-requires : goal.put_lines-requires
unfolding bytes
put_lines-requires c = all_asked c.requires c.put-p.ensures

pub returns : goal.returns
unfolding bytes
returns c = heading_put c.requires c.put-p.ensures _ c.put_lines.ensures
