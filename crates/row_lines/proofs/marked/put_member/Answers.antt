-- `put_member` meets its contract: a blank, and the name behind it.
use mathlib.Core.Path.{◌≡◌}
use mathlib.Core.Bool.{true}
use Rattle.trace_writer.proofs.Putting.{SlotName}
use Rattle.row_lines.proofs.NameSets.{name_slot, member_none, blank_fits, name_fits, member_one}
use Rattle.row_lines.proofs.marked.put_member.Goals as goal
use Rattle.row_lines.proofs.marked.put_member.Goals.{After-name_len-n}

named : (c : After-name_len-n)
    → SlotName c.args.names.now c.args.i c.name_len-n.result
named c = name_slot c.requires.slot c.name_len-n.ensures

set : (c : After-name_len-n) → c.bit_of.result ≡ true
set c = c.if-not-bit_of.false

pub returns-then-not-bit_of : goal.returns-then-not-bit_of
returns-then-not-bit_of c = member_none _ _ _ c.bit_of.ensures c.if-not-bit_of.true

pub push-p-requires : goal.push-p-requires
push-p-requires c =
    let here = (goal.at.push-p-requires c).After-name_len-n in
    blank_fits _ _ _ c.bit_of.ensures (set here) (named here) c.args.out.now c.requires.room

pub put-requires : goal.put-requires
put-requires c =
    let here = (goal.at.put-requires c).After-name_len-n in
    name_fits _ _ _ c.bit_of.ensures (set here) (named here) _ c.push-p.ensures c.requires.room

pub returns : goal.returns
returns c =
    let here = (goal.at.returns c).After-name_len-n in
    member_one _ _ _ c.bit_of.ensures (set here) (named here) _ c.push-p.ensures c.put.ensures
