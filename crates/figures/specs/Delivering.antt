-- A text that is delivered into a lent buffer: it stands at the front and its length is told, or there is no room.
--   line_order    the one refusal, 9
--   Delivers     outcome and memory
use Rattle.std.specs.Prelude.{ℕ, ◌≡◌, List, [], ◌∷◌, length}
use Rattle.basics.specs.Refusing.{Outcome}
use Rattle.alf.specs.Refusals.{Order, check, no_room, Comes}
use Rattle.basics.specs.Memory.{after, front}

-- 9, or done
abbrev pub line_order : List ℕ → ℕ → Order
line_order text room = check 9 (no_room (length text) room) ∷ []

pub record Delivers (text out out' : List ℕ) (r : Outcome) : Type 0 where
  pub outcome : Comes (line_order text (length out)) (λ k. k ≡ length text) r
  pub memory : out' ≡ after (front text out) out r
