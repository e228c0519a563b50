-- `holding::hold_pin` meets its contract.
use Rattle.held_parts.proofs.Pinning.{place_held}
use Rattle.held_parts.proofs.holding.hold_pin.Goals as goal

pub hold_list-requires : goal.hold_list-requires
hold_list-requires c =
    let s = c.requires in
    let l = c.column-list.ensures in
    record {
      most = s.rows.most;
      codes = λ i k. (l.is i k).code;
      cells = l.long;
      room = s.room;
      long = s.long;
    }

pub returns : goal.returns
returns c = place_held c.column-list.ensures c.hold_list.ensures
