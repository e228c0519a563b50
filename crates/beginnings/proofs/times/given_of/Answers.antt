-- `times::given_of` meets its contract.
use mathlib.Core.Path.{ap, sym}
use borrow.Author.Rules.{rules}
use Rattle.alf.specs.Beginnings.{is_given}
use Rattle.beginnings.proofs.times.given_of.Goals as goal

pub enum_told-1 : goal.enum_told-1
unfolding is_given
enum_told-1 c = search rules

pub enum_told-in-None : goal.enum_told-in-None
unfolding is_given
enum_told-in-None c = search rules

pub returns-in-Some : goal.returns-in-Some
unfolding is_given
returns-in-Some c = ap is_given (sym c.in-Some.is)

pub returns-in-None : goal.returns-in-None
unfolding is_given
returns-in-None c = ap is_given (sym c.in-None.is)
