-- `accepting::count_listed` meets its contract.
use mathlib.Core.Path.{ap}
use mathlib.Core.Bool.{not}
use Rattle.basics.proofs.Deciding.{decided_no, decided_yes}
use Rattle.listed_acceptance.proofs.Fitting.{fits_18, fits_10, fits_counted}
use Rattle.listed_acceptance.proofs.accepting.count_listed.Goals as goal

pub returns-then-not-names_fit : goal.returns-then-not-names_fit
returns-then-not-names_fit c =
    fits_18 (decided_no _ c.names_fit.ensures (ap not c.if-not-names_fit.true)) c.refuse.ensures

pub returns-then-not-fits : goal.returns-then-not-fits
returns-then-not-fits c =
    fits_10 (decided_yes _ c.names_fit.ensures (ap not c.if-not-names_fit.false))
    (decided_no _ c.fits.ensures (ap not c.if-not-fits.true)) c.refuse-then-not-fits.ensures

pub returns : goal.returns
returns c =
    fits_counted (decided_yes _ c.names_fit.ensures (ap not c.if-not-names_fit.false))
    (decided_yes _ c.fits.ensures (ap not c.if-not-fits.false))
