-- What `read_tokens` answers: the tokens of the text, or a refusal.
--   zeros, filled           4,096 zeros; a list with zeros behind it
--   codes_of, places_of       the codes and the places of tokens
--   made                    the tokens, handed over
--   Tokenized               what a text comes to
use Rattle.std.specs.Prelude.{Result, Ok, Err, ℕ, List, map, length, replicate}
use Rattle.basics.specs.Memory.{front}
use Rattle.basics.specs.declared.Refusal.{Refusal}
use Rattle.alf.specs.Refusals.{Passed}
use Rattle.tokens.specs.declared.Tokens.{Tokens}
use Rattle.tokens.specs.Texts.{Token, Reads, order}
use Rattle.tokens.specs.Extents.{RefusedIn}

unfoldable pub zeros : List ℕ
zeros = replicate 4096 0

-- zeros behind a list, up to 4,096 entries
abbrev pub filled : List ℕ → List ℕ
filled xs = front xs zeros

abbrev pub codes_of : List Token → List ℕ
codes_of ts = map (λ (t : Token). t.code) ts

abbrev pub places_of : List Token → List ℕ
places_of ts = map (λ (t : Token). t.place) ts

-- the tokens ts, handed over
unfoldable pub made : List Token → Tokens
made ts = record { count = length ts; codes = filled (codes_of ts); places = filled (places_of ts) }

-- 1 to 4 in their order, exactly when the table says; else the tokens of the text
pub data Tokenized (text : List ℕ) : Result Tokens Refusal → Type 0 where
  refused : (r : Refusal) → RefusedIn text (order text) r → Tokenized text (Err r)
  read : {ts : List Token} → Passed (order text) → Reads 0 text ts → Tokenized text (Ok (made ts))
