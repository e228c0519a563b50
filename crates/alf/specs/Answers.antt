-- Document 01, "How to write each place": "When an answer is an enum, the promises use a definition that gives this
-- paper's number and values for each of the enum's cases". The definitions of this folder speak of numbers alone.
--   number_of     document 01's number of an answer
use Rattle.std.specs.Prelude.{ℕ}
use Rattle.alf.specs.declared.Answer.{Answer}
use Rattle.alf.specs.declared.Answer.TheVariants.{No, Yes, Unknown, NoEvent}

unfoldable pub number_of : Answer → ℕ
number_of No = 0
number_of Yes = 1
number_of Unknown = 2
number_of NoEvent = 3
