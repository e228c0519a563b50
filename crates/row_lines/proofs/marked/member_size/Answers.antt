-- `member_size` meets its contract.
use Rattle.row_lines.proofs.NameSets.{name_slot, size_none, size_one}
use Rattle.row_lines.proofs.marked.member_size.Goals as goal

pub returns-then-not-bit_of : goal.returns-then-not-bit_of
returns-then-not-bit_of c = size_none _ _ _ c.bit_of.ensures c.if-not-bit_of.true

pub returns : goal.returns
returns c =
    size_one _ _ _ c.bit_of.ensures c.if-not-bit_of.false
    (name_slot c.requires c.name_len.ensures)
