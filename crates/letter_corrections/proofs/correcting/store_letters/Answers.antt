-- `correcting::store_letters` meets its contract.
use Rattle.basics.proofs.PartByPart.{holds_within, holds_count}
use Rattle.letter_corrections.proofs.LetterCorrections.{codes_fit, codes_stored}
use Rattle.letter_corrections.proofs.correcting.store_letters.Goals as goal

pub slice_bounds-list-end : goal.slice_bounds-list-end
slice_bounds-list-end c = holds_within c.lay_codes-m.ensures

pub slice_bounds-store_codes-end : goal.slice_bounds-store_codes-end
slice_bounds-store_codes-end c = holds_count c.lay_codes-m.ensures

pub store_codes-requires : goal.store_codes-requires
store_codes-requires c = codes_fit c.args.states.now c.args.letters.now c.lay_codes-m.ensures c.requires

pub returns : goal.returns
returns c =
    codes_stored c.args.states.now c.args.letters.now c.lay_codes-m.ensures
    c.store_codes.ensures
