-- `alternatives_text` meets its contract.
use Rattle.text_laws.proofs.ReadTrees.{read_found, found_within, found_count}
use Rattle.alternative_listings.proofs.AlternativesLaws.{refused_text, rewritten_text}
use Rattle.alternative_listings.proofs.texts.alternatives_text.Goals as goal

pub slice_bounds-tree-end : goal.slice_bounds-tree-end
slice_bounds-tree-end c = found_within (read_found c.in-Ok.ensures)

pub slice_bounds-write_alternatives-end : goal.slice_bounds-write_alternatives-end
slice_bounds-write_alternatives-end c = found_count (read_found c.in-Ok.ensures)

pub returns-in-Ok : goal.returns-in-Ok
returns-in-Ok c = rewritten_text (read_found c.in-Ok.ensures) c.write_alternatives.ensures

pub returns-in-Err : goal.returns-in-Err
returns-in-Err c = refused_text c.in-Err.ensures
