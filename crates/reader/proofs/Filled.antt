-- Laws of the lists of a text's tokens, with zeros behind them.
--   place_inside                    a place of a token
--   handed_filled                   they are what the parser takes
use mathlib.Core.Path.{◌≡◌}
use mathlib.Core.List.{List, [], ◌∷◌}
use Prim.Native.Nat.{ℕ, zero, suc, ◌≤◌, ◌<◌}
use native.Mathlib.Omega.{arith}
use lib.ListN.{length, get_or}
use Rattle.basics.proofs.AllEntries.{All, more}
use Rattle.tokens.specs.Texts as text
use Rattle.tokens.specs.Tokenizing as reading
use Rattle.tokens.specs.Tokenizing.{filled}
use Rattle.tokens.proofs.Filling.{filled_front}
use Rattle.grammar.specs.declared.Token.{Token}
use Rattle.grammar.specs.Tokens.{tokens}
use Rattle.grammar.specs.Answers.{handed}
use Rattle.reader.specs.Texts.{tokens_of}

pub place_inside : (ts : List text.Token) (b i : ℕ) → All (λ (t : Token). t.place ≤ b) (tokens_of ts)
    → i < length ts
    → get_or (reading.places_of ts) i 0 ≤ b
unfolding tokens
place_inside [] b i a h = absurd (omega arith)
place_inside (t ∷ ts) b zero (more k a) h = k
place_inside (t ∷ ts) b (suc i) (more k a) h = place_inside ts b i a (omega arith)

pub handed_filled : (ts : List text.Token)
    → handed (filled (reading.codes_of ts)) (filled (reading.places_of ts)) (length ts) ≡ tokens_of ts
handed_filled ts = rw (filled_front (λ t. t.code) ts, filled_front (λ t. t.place) ts)
