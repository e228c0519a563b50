-- What the checks ask, and what they give.
--   SpanIn      a part lies in a text
--   LineIn      a line starts in a text, and there are few names
--   ReadsTime   the time that a word is
use Rattle.std.specs.Prelude.{ℕ, ◌≤◌, ◌≡◌, true, false, List, length, Option, Some, None}
use Rattle.figures.specs.Numbers.{reading}
use Rattle.trace_texts.specs.Texts.{is_time}

pub record SpanIn (text : List ℕ) (start end : ℕ) : Type 0 where
  pub ordered : start ≤ end
  pub within : end ≤ length text

pub record LineIn (text : List ℕ) (p k : ℕ) : Type 0 where
  pub within : p ≤ length text
  pub few : k ≤ 32

-- the time that a word is, where it is one
unfoldable pub ReadsTime : List ℕ → Option ℕ → Type 0
ReadsTime word (Some t) = (is_time word ≡ true) × (t ≡ reading 0 word)
ReadsTime word None = is_time word ≡ false
