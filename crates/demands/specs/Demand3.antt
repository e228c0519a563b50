-- Demand 3: a correction rewrites the answers r to min(r+K, n-1) and no others, and they are right whatever the list
-- held before. Said of a question, a trace and a pattern, for every K, and of whatever the call's contract allows.
--   Corrects, last     the call on the question's trace; the last row whose answer is rewritten
--   Demand3            what is promised
use Rattle.std.specs.Prelude.{Ok}
use Rattle.std.specs.Prelude.{ℕ, ◌<◌, ◌≤◌, ◌≡◌, ◌⊎◌, List, length, get_or}
use Rattle.basics.specs.Refusing.{Outcome}
use Rattle.alf.specs.Traces.{corrected, last_rewritten}
use Rattle.states.specs.FirstBadCode.{Codes}
use Rattle.update_calls.specs.Correcting.{Correction}
use Rattle.demands.specs.Questions.{Question, names_of, tree_of, answer_on, answer_at, K}

module _ {file text : List ℕ} (q : Question file text) where
  -- the call on the question's trace, with a list of answers, for row r and its new states
  abbrev pub Corrects : List ℕ → ℕ → List ℕ → List ℕ → List ℕ → Outcome → Type 0
  Corrects answers r new states' answers' o =
      Correction q.rules (names_of q) q.rows (tree_of q) q.states answers r new states' answers' o

  abbrev pub last : ℕ → ℕ
  last r = last_rewritten (K q) q.rows r

  pub record Demand3 : Type 0 where
    -- a row that is there, new states that are codes, and lists of the right length: it is done
    pub done : (answers : List ℕ) (r : ℕ) (new states' answers' : List ℕ) (o : Outcome)
        → length answers ≡ q.rows → length new ≡ names_of q → Codes new → r < q.rows
        → Corrects answers r new states' answers' o → o ≡ Ok 1
    -- the new states are row r; other rows stay
    pub stored : (answers : List ℕ) (r : ℕ) (new states' answers' : List ℕ)
        → Corrects answers r new states' answers' (Ok 1)
        → states' ≡ corrected (names_of q) q.states r new
    -- the answers r to min(r+K, n-1) are those of the corrected trace, whatever stood there; the others stay
    pub rewritten_right : (answers : List ℕ) (r : ℕ) (new states' answers' : List ℕ)
        → Corrects answers r new states' answers' (Ok 1) → (i : ℕ) → r ≤ i → i ≤ last r
        → get_or answers' i 0 ≡ answer_on q states' i
    pub others_stay : (answers : List ℕ) (r : ℕ) (new states' answers' : List ℕ)
        → Corrects answers r new states' answers' (Ok 1) → (i : ℕ) → (i < r) ⊎ (last r < i)
        → get_or answers' i 0 ≡ get_or answers i 0
    -- so a list that was right is right on the corrected trace
    pub right_again : (answers : List ℕ) (r : ℕ) (new states' answers' : List ℕ)
        → Corrects answers r new states' answers' (Ok 1)
        → ((i : ℕ) → i < q.rows → get_or answers i 0 ≡ answer_at q i)
        → (i : ℕ) → i < q.rows → get_or answers' i 0 ≡ answer_on q states' i
