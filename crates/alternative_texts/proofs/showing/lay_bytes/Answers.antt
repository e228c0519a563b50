-- `lay_bytes` meets its contract.
use Rattle.trees.proofs.Starts.{of_boolean}
use Rattle.alternative_texts.proofs.PartBytes.{bytes_laid}
use Rattle.alternative_texts.proofs.showing.lay_bytes.Goals as goal

pub start_of-start-requires : goal.start_of-start-requires
start_of-start-requires c = of_boolean c.requires.ends

pub returns : goal.returns
returns c =
    bytes_laid _ c.requires.ends c.requires.few c.requires.room c.start_of-start.ensures c.put-n.ensures
    c.edge_byte.ensures c.push.ensures
