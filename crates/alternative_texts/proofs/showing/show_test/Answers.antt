-- `show_test` meets its contract.
use borrow.Author.Rules.{rules}
use mathlib.Core.Path.{◌≡◌}
use lib.ListN.{length}
use Rattle.basics.proofs.PartByPart.{holds_within, holds_count}
use Rattle.alternative_texts.proofs.Telling.{tellable, test_told}
use Rattle.alternative_texts.proofs.showing.show_test.Goals as goal

pub slice_bounds-list-end : goal.slice_bounds-list-end
slice_bounds-list-end c = holds_within c.lay_array-n.ensures

pub slice_bounds-tell-end : goal.slice_bounds-tell-end
slice_bounds-tell-end c = holds_count c.lay_array-n.ensures

pub tell-requires : goal.tell-requires
tell-requires c =
    let e : length c.args.text.now ≡ 4096 = search rules in
    tellable _ c.requires c.lay_array-n.ensures _ e

pub returns : goal.returns
returns c = test_told _ c.requires c.lay_array-n.ensures c.tell.ensures
