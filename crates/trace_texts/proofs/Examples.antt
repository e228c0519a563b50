-- A text that a person wrote, read: a comment, tabs, CR, small letters, no LF at its end, no column `changed`;
-- and a head
-- whose last pin is called `changed`.
use mathlib.Core.Path.{◌≡◌, refl}
use mathlib.Core.Bool.{false}
use mathlib.Core.List.{List, [], ◌∷◌, ◌++◌, map}
use Prim.Native.Nat.{ℕ}
use lib.ListN.{get_or, drop}
use Rattle.basics.specs.Text.{bytes, joined}
use Rattle.basics.specs.Words.{listed, same}
use Rattle.alf.specs.Names.{slot_of}
use Rattle.alf.specs.States.{among}
use Rattle.figures.specs.Numbers.{reading}
use Rattle.state_letters.specs.Letters.{state_of}
use Rattle.trace_texts.specs.Words.{Word, Line, line, is_blank_lem, joins, before, lines_from, says, saying, lines_of}
use Rattle.trace_texts.specs.Texts.{
  is_changed,
  tells,
  named,
  name_words,
  wide,
  code_of,
  names_made,
  times_made,
  states_made,
}

unfoldable pub written : List ℕ
written = bytes "# a note\r\n\r\ntime\tA  B\r\n0 0 x\n  10\t1 Z"

abbrev head_in : List ℕ → Line
head_in text = get_or (lines_of text) 0 (line [] 0)

abbrev rows_in : List ℕ → List Line
rows_in text = drop 1 (lines_of text)

pub written_names : names_made (head_in written) ≡ slot_of (bytes "A") ++ slot_of (bytes "B")
unfolding written bytes lines_of lines_from before is_blank_lem joins says saying names_made named tells is_changed same joined
    slot_of
written_names = refl

pub written_times : times_made (rows_in written) ≡ 0 ∷ 10 ∷ []
unfolding written bytes lines_of lines_from before is_blank_lem joins says saying times_made reading
written_times = refl

pub written_states : states_made 2 (rows_in written) ≡ 0 ∷ 2 ∷ 1 ∷ 6 ∷ []
unfolding written bytes lines_of lines_from before is_blank_lem joins says saying states_made joined listed code_of state_of among
written_states = refl

-- not wide: a further word on a row would be refused
pub written_narrow : wide (head_in written) ≡ false
unfolding written bytes lines_of lines_from before is_blank_lem joins says saying tells is_changed same
written_narrow = refl

-- the names end at the last `changed`
pub pin_called_changed :
    map (λ (w : Word). w.bytes) (name_words (head_in (bytes "time A changed changed\n")))
    ≡ bytes "A" ∷ bytes "changed" ∷ []
unfolding bytes lines_of lines_from before is_blank_lem joins says saying named tells is_changed same
pin_called_changed = refl
