-- `write_alternatives` meets its contract.
use Rattle.writer.proofs.Calls.{names_passed}
use Rattle.alternative_listings.proofs.WritingCases.{refused_names}
use Rattle.alternative_listings.proofs.write_alternatives.Goals as goal

pub write_named-requires : goal.write_named-requires
write_named-requires c = names_passed _ c.check_names-checked.ensures c.in-Ok.is

pub returns-in-Err : goal.returns-in-Err
returns-in-Err c = refused_names _ c.check_names-checked.ensures c.in-Err.is
