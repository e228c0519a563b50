-- The steady pins of a tree in memory, and the expression that a tree is with them (document 02, [2]). The filled
-- expression is not built: it is the tree as written, and for each part of it, by the place where the part ends, 32
-- entries, one for each name. An entry is 0, or the place in the tree where an operand ends: that operand is tested as
-- `?-`, joined by `&` to the part.
--   pin_at                    the entry of a name, at the part that ends at a place
--   pinned, by_places         a part with its pins' tests; the expression with them, its operands by their places
--   pin_tests, pin_count_lem       the tests that a part's pins are, and how many
--   Pins                     each entry is a place where a boolean expression ends
use Rattle.std.specs.Prelude.{ℕ, zero, suc, ◌+◌, ◌-◌, ◌*◌, ◌<◌, ◌≡◌, not, List, [], ◌∷◌, ◌++◌, eqb, length, get_or, if◌then◌else◌}
use Rattle.basics.specs.Words.{count}
use Rattle.alf.specs.Expressions.{Boolean, stays, Vector, edge, join, while, with, on_right, on_left}
use Rattle.alf.specs.Bytes.{boolean_bytes, vector_bytes}
use Rattle.alf.specs.Alternatives.{test, Step}
use Rattle.trees.specs.Parts.{EndsBoolean}

abbrev pub pin_at : List ℕ → ℕ → ℕ → ℕ
pin_at pins end n = get_or pins ((end - 1) * 32 + n) 0

-- `operand` is the boolean expression that a place stands for
module _ (operand : ℕ → Boolean) (pins : List ℕ) where
  -- p & ?- c, for each of the first n entries of the part that ends at `end`, where there is a pin
  unfoldable pub pinned : ℕ → ℕ → Vector → Vector
  pinned zero end p = p
  pinned (suc n) end p =
      if eqb (pin_at pins end n) 0 then pinned n end p
      else join with (pinned n end p) (edge stays (operand (pin_at pins end n)))

  -- the tests of these entries, rising
  unfoldable pub pin_tests : ℕ → ℕ → Step
  pin_tests zero end = []
  pin_tests (suc n) end =
      pin_tests n end
      ++ (if eqb (pin_at pins end n) 0 then [] else test stays (operand (pin_at pins end n)) ∷ [])

  -- the expression that ends at `end`, with its pins: an operator stands last, its last operand ends right before it,
  -- and the operand before that ends where the last one starts
  unfoldable pub by_places : ℕ → Vector → Vector
  by_places end (edge e c) = pinned 32 end (edge e (operand (end - 1)))
  by_places end (join j p q) =
      pinned 32 end (join j (by_places (end - 1 - length (vector_bytes q)) p) (by_places (end - 1) q))
  by_places end (while on_right p c) =
      while on_right (by_places (end - 1 - length (boolean_bytes c)) p) (operand (end - 1))
  by_places end (while on_left p c) =
      while on_left (by_places (end - 1) p) (operand (end - 1 - length (vector_bytes p)))

-- how many of the first n entries there are pins in
abbrev pub pin_count_lem : List ℕ → ℕ → ℕ → ℕ
pin_count_lem pins end n = count n (λ k. not (eqb (pin_at pins end k) 0))

-- the pins of a tree of at most 256 bytes: each is a place where a boolean expression ends
pub record Pins (tree : List ℕ) (names : ℕ) (pins : List ℕ) : Type 0 where
  pub long : length pins ≡ 8192
  pub stands : (i : ℕ) → 0 < get_or pins i 0 → EndsBoolean tree names (get_or pins i 0)
