-- What a call that reads gives back: the bytes of the expression, or a refusal and no bytes.
--   made, refused_with                           read; refused, and no bytes shown
--   size_of, shown_at, refused_at                the bytes of the token at a place; refused, and these bytes shown
--   answered                                   what the pass over the nodes comes to
--   has_sort                                    whether an expression has the sort asked for
--   Grown, Answered                            a parser's answer, and what is read for it
use Rattle.std.specs.Prelude.{Result, Ok, Err, ℕ, ◌≤◌, ◌≡◌, Bool, not, List, length, drop}
use Rattle.alf.specs.Names.{names_in}
use Rattle.basics.specs.declared.Refusal.{Refusal}
use Rattle.basics.specs.Refusing.{refusal, refusal_over_lem}
use Rattle.alf.specs.declared.Sort.{Sort}
use Rattle.alf.specs.declared.Sort.TheVariants as the_sort
use Rattle.alf.specs.Expressions.{Expression}
use Rattle.alf.specs.Bytes.{bytes_of}
use Rattle.basics.specs.Words.{All}
use Rattle.token_steps.specs.Steps.{Outcome, step_of}
use Rattle.grammar.specs.declared.Token.{Token}
use Rattle.grammar.specs.declared.Parsed.{Parsed}
use Rattle.grammar.specs.Grammar.{Tree, nodes}
use Rattle.grammar.specs.Answers.{padded, accepted}
use Rattle.grammar.specs.Written.{Formed}
use Rattle.reader.specs.declared.Read.{Read}
use Rattle.sorting.specs.Lookup.{number_at}
use Rattle.sorting.specs.Sorts.{Sorted, is, faulty, sorted_for}

unfoldable pub made : Expression → Read
made x = record { len = length (bytes_of x); tree = padded (bytes_of x) }

-- refused, and no bytes shown
abbrev pub refused_with : ℕ → ℕ → Result Read Refusal
refused_with n p = Err (refusal n p)

-- how many bytes a token has; where there is none, how far on the byte refused is
abbrev pub size_of : Outcome → ℕ
size_of (Ok s) = s.size
size_of (Err k) = k

-- the bytes of the token at p as the token reader counts them, 0 at the text's end. That they are `Extent` is a law.
abbrev pub shown_at : List ℕ → ℕ → ℕ
shown_at text p = size_of (step_of (drop p text))

abbrev pub refused_at : List ℕ → ℕ → ℕ → Result Read Refusal
refused_at text n p = Err (refusal_over_lem n p (shown_at text p))

-- the expression, or 7 at the place of the first fault
unfoldable pub answered : List ℕ → Sorted → Result Read Refusal
answered text (is x) = Ok (made x)
answered text (faulty p) = refused_at text 7 p

-- whether an expression, a vector or not, has the sort
unfoldable pub has_sort : Sort → Bool → Bool
has_sort the_sort.Boolean v = not v
has_sort the_sort.Vector v = v

-- a parser's answer with the nodes of a tree of the text
pub record Grown (names text : List ℕ) (p : Parsed) : Type 0 where
  pub few : names_in names ≤ 32
  pub tree : Tree
  pub formed : Formed tree
  pub short : length (nodes tree) ≤ 256
  pub inside : All (λ (t : Token). t.place ≤ length text) (nodes tree)
  pub is_tree : p ≡ accepted (nodes tree)

-- what is read for a parser's answer: for the tree whose nodes it has
pub record Answered (names text : List ℕ) (p : Parsed) (sort : Sort) (r : Result Read Refusal) : Type 0 where
  pub given :
      (e : Tree) →
      Formed e →
      p ≡ accepted (nodes e) →
      r ≡ answered text (sorted_for sort (length text) (number_at names text) e)
