-- The contract of `parse`: what it is handed, and its answer, the nodes of the text's one tree or the place of
-- refusal 5. That any two answers coincide is a law.
--   handed, Handed                   the tokens of two lists, and what `parse` asks of them
--   place_at                          the byte of a token by its number
--   padded, codes_of, places_of        lists of 256 entries; the codes and the places of tokens
--   accepted, refused_at, Answer      the answer
--   Stuck, Rising                    refusal 5 by places; tokens that begin one before the other
use Rattle.std.specs.Prelude.{ℕ, ◌≤◌, ◌<◌, ◌≡◌, true, false, List, [], ◌∷◌, ◌++◌, map, ltb, length, get_or, take, replicate, if◌then◌else◌}
use Rattle.basics.specs.Memory.{front}
use Rattle.grammar.specs.declared.Token.{Token}
use Rattle.grammar.specs.declared.Parsed.{Parsed}
use Rattle.grammar.specs.Tokens.{counted, tokens}
use Rattle.grammar.specs.Grammar.{Tree, nodes, Expression, Begins, Refused, place_of}

-- the tokens of two lists of which count entries are used
abbrev pub handed : List ℕ → List ℕ → ℕ → List Token
handed codes places count = tokens (take count codes) (take count places)

pub record Handed (codes places : List ℕ) (count : ℕ) : Type 0 where
  pub codes_hold : count ≤ length codes
  pub places_hold : count ≤ length places
  pub few : counted (handed codes places count) ≤ 256

-- the byte of the token at a number, or the text's length behind the last
unfoldable pub place_at : List ℕ → ℕ → ℕ → ℕ
place_at places i bytes = if ltb i (length places) then get_or places i 0 else bytes

-- 256 entries: some, and zeros behind them
abbrev pub padded : List ℕ → List ℕ
padded xs = front xs (replicate 256 0)

abbrev pub codes_of : List Token → List ℕ
codes_of ns = map (λ (t : Token). t.code) ns

abbrev pub places_of : List Token → List ℕ
places_of ns = map (λ (t : Token). t.place) ns

abbrev pub accepted : List Token → Parsed
accepted ns =
    record { ok = true; place = 0; len = length ns; codes = padded (codes_of ns); places = padded (places_of ns) }

abbrev pub refused_at : ℕ → Parsed
refused_at p = record { ok = false; place = p; len = 0; codes = padded []; places = padded [] }

-- the answer for the tokens of a text of that length
pub data Answer (ts : List Token) (bytes : ℕ) (r : Parsed) : Type 0 where
  tree : {e : Tree} → Expression ts e → r ≡ accepted (nodes e) → Answer ts bytes r
  no_tree : {rest : List Token} → Refused ts rest → r ≡ refused_at (place_of bytes rest) → Answer ts bytes r

-- Refusal 5 by places, for the table's row `no_grammar`: at p is a token such that no expression begins with the tokens
-- up to and including it; or the text ends at p and is no expression.
pub data Stuck (ts : List Token) (bytes p : ℕ) : Type 0 where
  with_token :
      (before rest : List Token) (t : Token) →
      ts ≡ before ++ (t ∷ rest) →
      p ≡ t.place →
      (Begins (before ++ (t ∷ [])) → ⊥) →
      Stuck ts bytes p
  with_end : p ≡ bytes → ((e : Tree) → Expression ts e → ⊥) → Stuck ts bytes p

-- each token begins before the next, the last before the text's end
pub data Rising (bytes : ℕ) : List Token → Type 0 where
  none : Rising bytes []
  next : {t : Token} {ts : List Token} → t.place < place_of bytes ts → Rising bytes ts → Rising bytes (t ∷ ts)
