-- `codes_to` meets its contract: the first code above 7 is looked for in the part lent.
use Rattle.trace_format.proofs.CodeParts.{found_in_part}
use Rattle.trace_format.proofs.parts.codes_to.Goals as goal

pub returns : goal.returns
returns c = found_in_part _ _ _ c.requires.0 c.requires.1 c.first_bad_code.ensures
