-- `filling::fill_leaf` meets its contract.
use Rattle.window_answers.proofs.FilledParts.{leaf_filled}
use Rattle.window_answers.proofs.filling.fill_leaf.Goals as goal

pub column-list-requires : goal.column-list-requires
column-list-requires c = let s = c.requires in record {
  ends_boolean = s.ends;
  rows = s.rows;
}

pub leaf_part-requires : goal.leaf_part-requires
leaf_part-requires c =
    let s = c.requires in
    let l = c.column-list.ensures in
    record {
      most = s.rows.most;
      codes = λ i k. (l.is i k).code;
      cells = l.long;
      room = s.room;
      long = s.long;
    }

pub returns : goal.returns
returns c = leaf_filled c.column-list.ensures c.leaf_part.ensures
