-- The listing of case 8's values (`A ? C : 'bZ`) on table T, computed from the expression on, byte for byte. Case 1's
-- listing stands in tree_listings.
use mathlib.Core.Path.{◌≡◌, refl}
use Rattle.alf.specs.declared.Rules.{Rules}
use Rattle.alf.specs.TableT as T
use Rattle.basics.specs.Words.{listed}
use Rattle.alf.specs.States.{Z, reduce}
use Rattle.alf.specs.Expressions.{literal, choice}
use Rattle.alf.specs.Values.{unresolved, chosen, value}
use Rattle.basics.specs.Text.{bytes, joined}
use Rattle.figures.specs.Numbers.{digits, width_up_to, width, decimal}
use Rattle.listing.specs.Listing.{letter, word_of, line, lines, values_listing}
use Rattle.expression_listings.specs.TreeListings.{value_listing}

pub case_8 : (ρ : Rules) →
    value_listing ρ T.names T.times T.states (choice T.A T.C (literal Z))
    ≡ bytes "time value\n0 Z\n10 1\n20 X\n35 X\n40 1\n55 1\n"
unfolding
    value_listing values_listing lines line word_of letter bytes joined decimal width width_up_to digits T.times T.states
    listed reduce unresolved chosen value
case_8 ρ = refl
