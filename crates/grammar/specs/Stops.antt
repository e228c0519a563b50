-- For the parser: where reading an expression of a level stops, rule by rule. That this is the place which the document
-- asks for, `Refused`, is a law.
--   rank, starts     a kind as a number; whether an expression begins with such a token
--   Stops            no expression of a level begins some tokens, and where that shows
use Rattle.std.specs.Prelude.{ℕ, suc, ◌<◌, ◌≡◌, Bool, true, false, List, ◌∷◌}
use Rattle.grammar.specs.declared.Token.{Token}
use Rattle.grammar.specs.Tokens.{Kind, operand, prefix, question, colon, opening, closing, other, binary}
use Rattle.grammar.specs.Tokens.{kind_of, ahead}
use Rattle.grammar.specs.Grammar.{Tree, Parses}

-- a kind as a number: the level of an operator that goes on after an operand; the others are above 6
abbrev pub rank : Kind → ℕ
rank operand = 32
rank prefix = 33
rank question = 6
rank colon = 61
rank opening = 62
rank closing = 63
rank other = 99
rank (binary l) = l

-- whether an expression begins with such a token
abbrev pub starts : Kind → Bool
starts operand = true
starts prefix = true
starts question = false
starts colon = false
starts opening = true
starts closing = false
starts other = false
starts (binary l) = false

-- `Stops l ts rest`: no expression of level l begins ts, and rest begins with the token (or is the end) that shows it
pub data Stops : ℕ → List Token → List Token → Type 0 where
  here : {ts : List Token} → starts (ahead ts) ≡ false → Stops 1 ts ts
  in_operand : {t : Token} {ts rest : List Token} → kind_of t ≡ prefix → Stops 1 ts rest
      → Stops 1 (t ∷ ts) rest
  in_bracket : {t : Token} {ts rest : List Token} → kind_of t ≡ opening → Stops 6 ts rest
      → Stops 1 (t ∷ ts) rest
  unclosed :
      {t : Token} {ts rest : List Token} {e : Tree} →
      kind_of t ≡ opening →
      Parses 6 ts e rest →
      6 < rank (ahead rest) →
      ¬ (ahead rest ≡ closing) →
      Stops 1 (t ∷ ts) rest
  s_up : {l : ℕ} {ts rest : List Token} → Stops l ts rest → Stops (suc l) ts rest
  in_right :
      {l : ℕ} {t : Token} {ts us rest : List Token} {a : Tree} →
      Parses (suc l) ts a (t ∷ us) →
      kind_of t ≡ binary (suc l) →
      Stops l us rest →
      Stops (suc l) ts rest
  in_middle :
      {t : Token} {ts us rest : List Token} {c : Tree} →
      Parses 5 ts c (t ∷ us) →
      kind_of t ≡ question →
      Stops 6 us rest →
      Stops 6 ts rest
  no_colon :
      {t : Token} {ts us rest : List Token} {c a : Tree} →
      Parses 5 ts c (t ∷ us) →
      kind_of t ≡ question →
      Parses 6 us a rest →
      6 < rank (ahead rest) →
      ¬ (ahead rest ≡ colon) →
      Stops 6 ts rest
  in_last :
      {t u : Token} {ts us vs rest : List Token} {c a : Tree} →
      Parses 5 ts c (t ∷ us) →
      kind_of t ≡ question →
      Parses 6 us a (u ∷ vs) →
      kind_of u ≡ colon →
      Stops 6 vs rest →
      Stops 6 ts rest
