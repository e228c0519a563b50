-- What the correction of a row comes to, for a tree: document 01's corrected trace, the answers r to min(r+K, n-1)
-- written anew, all else as it was.
--   Lists, correction_order           lists that fit, and the order of the refusals
--   rewritten, Correction            the answers then; the call
--   TreeCorrection, CorrectsTree     what is asked and given once the lists and the tree are good
use Rattle.std.specs.Prelude.{ℕ, ◌+◌, ◌-◌, ◌<◌, ◌≡◌, List, length}
use Rattle.alf.specs.declared.Rules.{Rules}
use Rattle.alf.specs.declared.Sort.TheVariants.{Vector}
use Rattle.basics.specs.Refusing.{Outcome}
use Rattle.alf.specs.Alternatives.{steps_of}
use Rattle.alf.specs.Traces.{corrected, last_rewritten}
use Rattle.alf.specs.Refusals.{Order, Comes}
use Rattle.acceptance.specs.Accepted.{Accepted}
use Rattle.basics.specs.Words.{listed}
use Rattle.states.specs.FirstBadCode.{Codes}
use Rattle.judging.specs.Orders.{Rows, order, codes_correction}
use Rattle.basics.specs.Memory.{placed, after}
use Rattle.matching_calls.specs.Matching.{expression, answers_on, TreeRows}

-- the trace, an answer for each row, a new state for each name
pub record Lists (names n states answers new : ℕ) : Type 0 where
  pub room : answers ≡ n
  pub full : new ≡ names
  pub rows : Rows names n states

-- 18, 10, 15 of the trace, 15 of the new row, 19
abbrev pub correction_order : Rules → ℕ → ℕ → List ℕ → List ℕ → List ℕ → ℕ → List ℕ → Order
correction_order ρ names n tree states answers row new =
    order (Lists names n (length states) (length answers) (length new)) (Accepted ρ names Vector tree)
    (codes_correction states new n row)

-- the answers from row r on, to min(r+K, n-1), are those on the trace; the others stay
abbrev pub rewritten : Rules → ℕ → ℕ → List ℕ → List ℕ → ℕ → List ℕ → List ℕ
rewritten ρ names n tree answers r states =
    placed answers r
    (listed r (last_rewritten (steps_of (expression ρ tree names)) n r + 1 - r) (answers_on ρ names tree states))

pub record Correction (ρ : Rules) (names n : ℕ) (tree states answers : List ℕ) (row : ℕ)
    (new states' answers' : List ℕ)
    (r : Outcome) : Type 0 where
  pub comes : Comes (correction_order ρ names n tree states answers row new) (λ k. k ≡ 1) r
  pub states_memory : states' ≡ after (corrected names states row new) states r
  pub answers_memory : answers'
      ≡ after (rewritten ρ names n tree answers row (corrected names states row new)) answers r

-- What the function inside asks and gives: an accepted tree and lists that fit.
pub record TreeCorrection (ρ : Rules) (names n : ℕ) (tree states answers : List ℕ) (row : ℕ) (new : List ℕ)
    : Type 0 where
  pub asked : TreeRows ρ names n tree states
  pub there : row < n
  pub room : length answers ≡ n
  pub full : length new ≡ names
  pub codes : Codes new

pub record CorrectsTree (ρ : Rules) (names n : ℕ) (tree states answers : List ℕ) (row : ℕ)
    (new states' answers' : List ℕ)
    : Type 0 where
  pub stored : states' ≡ corrected names states row new
  pub answered : answers' ≡ rewritten ρ names n tree answers row (corrected names states row new)
