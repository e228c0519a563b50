-- The head of a trace as a text.
--   CountsNames     its names are counted
--   NamesIn         a head starts in a text and has so many names
--   WordIs          word i of its names
--   HeadIn          a head with so many names, whose line ends there
use Rattle.std.specs.Prelude.{ℕ, ◌+◌, ◌<◌, ◌≤◌, ◌≡◌, Bool, List, length}
use Rattle.trace_texts.specs.Words.{Line}
use Rattle.trace_texts.specs.Texts.{name_words, wide}
use Rattle.trace_texts.specs.Finding.{from, Finds}

-- how many names a head has, whether what follows them is passed over, and where its line ends
pub record CountsNames (head : Line) (k : ℕ) (passed : Bool) (end : ℕ) : Type 0 where
  pub names : k ≡ length (name_words head)
  pub passing : passed ≡ wide head
  pub ends : end ≡ head.end

pub record NamesIn (text : List ℕ) (p k : ℕ) : Type 0 where
  pub within : p ≤ length text
  pub counted : k ≡ length (name_words (from text p).first)

-- word i of the names of the head at p
pub record WordIs (text : List ℕ) (p i start end : ℕ) : Type 0 where
  pub within : p ≤ length text
  pub named : i < length (name_words (from text p).first)
  pub found : Finds text p (i + 1) start end

pub record HeadIn (text : List ℕ) (p k end : ℕ) : Type 0 where
  pub names : NamesIn text p k
  pub some : 0 < length (from text p).first.words
  pub ends : end ≡ (from text p).first.end
