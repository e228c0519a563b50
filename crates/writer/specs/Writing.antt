-- Document 01, "Writing" and rows 18, 12, 10, 1, 9 of "Numbers for refused work": what `write_expression` comes to.
--   text_at             the text of the expression that a tree is
--   order, Writes      what is refused, in its order; the outcome and the lent buffer
--   Named, Layable, Laid, Linable, end_order, Delivers   what the functions inside ask and give
-- Row 10 is what `Accepted`, of acceptance, refuses: no tree of the sort, over 256 nodes, over 32 deep, over limit 8.
-- A text says what was written, so limit 8 is asked without steady pins (document 02, [2]): a tree that is accepted
-- under some rules is written.
use Rattle.std.specs.Prelude.{ℕ, ◌≤◌, ◌<◌, ◌≡◌, List, [], ◌∷◌, length, take, get_or}
use Rattle.alf.specs.Names.{names_in}
use Rattle.alf.specs.declared.Sort.{Sort}
use Rattle.alf.specs.Values.{old_rules_lem}
use Rattle.basics.specs.Refusing.{Outcome}
use Rattle.alf.specs.Refusals.{Order, check, bad_lists, bad_slot, cannot_be, too_long, no_room}
use Rattle.alf.specs.Refusals.{Passed, Comes}
use Rattle.names.specs.Check.{Slots, names_order}
use Rattle.trees.specs.Parts.{Ends, expression_at}
use Rattle.acceptance.specs.Accepted.{Accepted}
use Rattle.writer.specs.Trees.{text}
use Rattle.spelling.specs.Signs.{line_from}
use Rattle.writer.specs.Layout.{signs, tree_at}
use Rattle.spelling.specs.Inner.{Spellable}
use Rattle.basics.specs.Memory.{Holds, after, front}

-- the text of the expression that a tree is
unfoldable pub text_at : List ℕ → List ℕ → List ℕ
text_at names tree = text names (expression_at tree (names_in names) (length tree))

-- 18, 12, 10, 1, 9
unfoldable pub order : List ℕ → List ℕ → Sort → ℕ → Order
order names tree sort room =
    check 18 (bad_lists (Slots names)) ∷
    check 12 (bad_slot names) ∷
    check 10 (cannot_be (Accepted old_rules_lem (names_in names) sort tree → ⊥)) ∷
    check 1 (too_long (length (text_at names tree))) ∷
    check 9 (no_room (length (text_at names tree)) room) ∷
    []

pub record Writes (names tree : List ℕ) (sort : Sort) (out out' : List ℕ) (r : Outcome) : Type 0 where
  pub outcome : Comes (order names tree sort (length out)) (λ k. k ≡ length (text_at names tree)) r
  pub memory : out' ≡ after (front (text_at names tree) out) out r

-- What the functions inside ask and give. The names are checked.
pub record Named (names : List ℕ) : Type 0 where
  pub passed : Passed (names_order names)

-- a whole tree whose signs have room
pub record Layable (tree : List ℕ) (names : ℕ) : Type 0 where
  pub ends : Ends tree names (length tree)
  pub few : length (signs 6 (tree_at tree names (length tree))) ≤ 1024

abbrev pub Laid : List ℕ → ℕ → List ℕ → ℕ → Type 0
Laid tree names list r = Holds list r (signs 6 (tree_at tree names (length tree)))

pub record Linable (names list : List ℕ) (count : ℕ) : Type 0 where
  pub there : count ≤ 1024
  pub signs : (i : ℕ) → i < count → Spellable names (get_or list i 0)
  pub short : length (line_from names 0 (take count list)) ≤ 33792

-- the end of the call, where the text is made: 1, 9, or done
unfoldable pub end_order : List ℕ → ℕ → Order
end_order w room = check 1 (too_long (length w)) ∷ check 9 (no_room (length w) room) ∷ []

pub record Delivers (w out out' : List ℕ) (r : Outcome) : Type 0 where
  pub outcome : Comes (end_order w (length out)) (λ k. k ≡ length w) r
  pub memory : out' ≡ after (front w out) out r
