-- The correction of a trace's row by the letters of its new states: document 01's corrected trace, or a refusal.
--   LettersFit         the trace's lists fit, and there are as many letters as names
--   letters_order       18, 15 of the trace, 15 of the letters, 19. No tree is handed in, so 10 is not among them
--   CorrectsLetters    what the call comes to
--   Stores             the same behind 18, for new states as codes: what the functions inside give
use Rattle.std.specs.Prelude.{ℕ, ◌≡◌, List, ◌∷◌, map, length}
use Rattle.basics.specs.Refusing.{Outcome}
use Rattle.alf.specs.Refusals.{Order, check, bad_lists, Comes}
use Rattle.alf.specs.Traces.{corrected}
use Rattle.judging.specs.Orders.{Rows, codes_correction}
use Rattle.basics.specs.Memory.{after}
use Rattle.state_letters.specs.Letters.{state_of}

-- k names, n rows, so many states and letters
pub record LettersFit (k n states letters : ℕ) : Type 0 where
  pub rows : Rows k n states
  pub full : letters ≡ k

abbrev pub letters_order : ℕ → ℕ → List ℕ → ℕ → List ℕ → Order
letters_order k n states row letters =
    check 18 (bad_lists (LettersFit k n (length states) (length letters)))
    ∷ codes_correction states (map state_of letters) n row

-- one row, with the letters' states
pub record CorrectsLetters (k n : ℕ) (states : List ℕ) (row : ℕ) (letters states' : List ℕ) (r : Outcome)
    : Type 0 where
  pub comes : Comes (letters_order k n states row letters) (λ m. m ≡ 1) r
  pub memory : states' ≡ after (corrected k states row (map state_of letters)) states r

pub record Stores (k n : ℕ) (states : List ℕ) (row : ℕ) (new states' : List ℕ) (r : Outcome) : Type 0 where
  pub comes : Comes (codes_correction states new n row) (λ m. m ≡ 1) r
  pub memory : states' ≡ after (corrected k states row new) states r
