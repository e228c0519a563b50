-- Document 01, refusal 10: "handed-in tree that no text, of whatever length, gives for this sort and number of names".
--   TextFor     some text gives a tree of the sort under some rules, for a list of names
--   SomeText    some text does, for some list of that many names
--   Exactly     the one exactly if the other
-- What a text gives is said in reader/specs/Reading.antt: 2 to 8 are given nowhere; how long it is does not matter.
-- That a tree is accepted (acceptance/specs/Accepted.antt) exactly if some text gives it is a
-- law.
use Rattle.std.specs.Prelude.{ℕ, ◌≡◌, List}
use Rattle.alf.specs.Names.{names_in}
use Rattle.alf.specs.declared.Rules.{Rules}
use Rattle.alf.specs.declared.Sort.{Sort}
use Rattle.alf.specs.Expressions.{Expression}
use Rattle.alf.specs.Bytes.{bytes_of}
use Rattle.alf.specs.Refusals.{Passed}
use Rattle.names.specs.Check.{names_order}
use Rattle.reader.specs.Reading.{Gives}

pub record TextFor (ρ : Rules) (names : List ℕ) (sort : Sort) (tree : List ℕ) : Type 0 where
  pub text : List ℕ
  pub expression : Expression
  pub gives : Gives ρ names text sort expression
  pub bytes : bytes_of expression ≡ tree

pub record SomeText (ρ : Rules) (n : ℕ) (sort : Sort) (tree : List ℕ) : Type 0 where
  pub names : List ℕ
  pub good : Passed (names_order names)
  pub counted : names_in names ≡ n
  pub given : TextFor ρ names sort tree

-- the one exactly if the other
abbrev pub Exactly : Type 0 → Type 0 → Type 0
Exactly a b = (a → b) × (b → a)
