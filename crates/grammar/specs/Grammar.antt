-- Document 01, "Text": the grammar as a relation, and refusal 5 in the document's words. The grammar knows no sorts.
-- That no text has two trees, or two places of refusal, is a law.
--   Tree, nodes             an expression as its tokens; these, operands before their operator
--   Parses, Expression      tokens begin with an expression of a level; tokens are an expression
--   Begins, Refused         some expression begins with tokens; where tokens are refused
--   place_of                 the byte where some tokens begin
use Rattle.std.specs.Prelude.{ℕ, suc, ◌≡◌, List, [], ◌∷◌, ◌++◌}
use Rattle.grammar.specs.declared.Token.{Token}
use Rattle.grammar.specs.Tokens.{operand, prefix, question, colon, opening, closing, binary, kind_of}

-- an expression as its tokens: brackets and `:` leave no trace
pub data Tree : Type 0 where
  leaf : Token → Tree
  one : Token → Tree → Tree
  two : Token → Tree → Tree → Tree
  three : Token → Tree → Tree → Tree → Tree

-- its tokens, operands before their operator
unfoldable pub nodes : Tree → List Token
nodes (leaf t) = t ∷ []
nodes (one t a) = nodes a ++ (t ∷ [])
nodes (two t a b) = (nodes a ++ nodes b) ++ (t ∷ [])
nodes (three t a b c) = ((nodes a ++ nodes b) ++ nodes c) ++ (t ∷ [])

-- `Parses l ts e rest`: ts begins with an expression of level l, which is e, and rest is what follows it
pub data Parses : ℕ → List Token → Tree → List Token → Type 0 where
  -- level 1: a name or literal
  alone : {t : Token} {ts : List Token} → kind_of t ≡ operand → Parses 1 (t ∷ ts) (leaf t) ts
  -- level 1: a prefix operator and an expression of level 1
  applied :
      {t : Token} {ts rest : List Token} {a : Tree} →
      kind_of t ≡ prefix →
      Parses 1 ts a rest →
      Parses 1 (t ∷ ts) (one t a) rest
  -- level 1: a whole expression in round brackets
  bracketed :
      {t u : Token} {ts rest : List Token} {e : Tree} →
      kind_of t ≡ opening →
      Parses 6 ts e (u ∷ rest) →
      kind_of u ≡ closing →
      Parses 1 (t ∷ ts) e rest
  -- a level holds the stronger ones
  up : {l : ℕ} {ts rest : List Token} {e : Tree} → Parses l ts e rest → Parses (suc l) ts e rest
  -- a binary operator of level l + 1, from the left: on its right is what binds stronger
  joined :
      {l : ℕ} {t : Token} {ts us rest : List Token} {a b : Tree} →
      Parses (suc l) ts a (t ∷ us) →
      kind_of t ≡ binary (suc l) →
      Parses l us b rest →
      Parses (suc l) ts (two t a b) rest
  -- level 6: c ? a : b, from the right, any expression in the middle
  chosen :
      {t u : Token} {ts us vs rest : List Token} {c a b : Tree} →
      Parses 5 ts c (t ∷ us) →
      kind_of t ≡ question →
      Parses 6 us a (u ∷ vs) →
      kind_of u ≡ colon →
      Parses 6 vs b rest →
      Parses 6 ts (three t c a b) rest

-- the tokens of a whole text are the expression e
abbrev pub Expression : List Token → Tree → Type 0
Expression ts e = Parses 6 ts e []

-- some expression begins with these tokens
pub record Begins (ts : List Token) : Type 0 where
  pub more : List Token
  pub tree : Tree
  pub whole : Expression (ts ++ more) tree

-- ts is refused where rest begins: at the first token with which no expression goes on, or at the end
pub data Refused (ts : List Token) : List Token → Type 0 where
  at_token :
      {before rest : List Token} {t : Token} →
      ts ≡ before ++ (t ∷ rest) →
      Begins before →
      (Begins (before ++ (t ∷ [])) → ⊥) →
      Refused ts (t ∷ rest)
  at_end : Begins ts → ((e : Tree) → Expression ts e → ⊥) → Refused ts []

-- the place of the first token of some, in a text of that length
abbrev pub place_of : ℕ → List Token → ℕ
place_of length [] = length
place_of length (t ∷ ts) = t.place
