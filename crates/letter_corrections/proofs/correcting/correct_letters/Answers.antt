-- `correcting::correct_letters` meets its contract.
use mathlib.Core.Path.{ap}
use mathlib.Core.Bool.{not}
use Rattle.basics.proofs.Deciding.{decided_no, decided_yes}
use Rattle.letter_corrections.proofs.LetterCorrections.{letters_18, letters_stored}
use Rattle.letter_corrections.proofs.correcting.correct_letters.Goals as goal

pub returns-then-not-fits : goal.returns-then-not-fits
returns-then-not-fits c =
    letters_18 (decided_no _ c.letters_fit-fits.ensures (ap not c.if-not-fits.true))
    c.refuse.ensures

pub store_letters-requires : goal.store_letters-requires
store_letters-requires c = decided_yes _ c.letters_fit-fits.ensures (ap not c.if-not-fits.false)

pub returns : goal.returns
returns c =
    letters_stored c.args.states.now c.args.letters.now
    (decided_yes _ c.letters_fit-fits.ensures (ap not c.if-not-fits.false)) c.store_letters.ensures
