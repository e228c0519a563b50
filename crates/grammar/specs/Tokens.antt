-- Document 01, "Text": what a token is, by its code, and the operators' levels from strongest to weakest.
-- A token is read already: its code says which it is, its place is the byte at which it begins.
--   Kind                        an operand, an operator of a level, a bracket ..
--   Span, span, table           the table of codes and kinds
--   kind_in, kind, kind_of, ahead the kind of a code by a table, of a code, of a token, of what comes next
--   weight, counted             which tokens are counted, and how many
--   tokens                      the tokens that two lists hold
use Rattle.std.specs.Prelude.{ℕ, ◌+◌, ◌&&◌, List, [], ◌∷◌, leb, if◌then◌else◌}
use Rattle.grammar.specs.declared.Token.{Token}

-- an operand by itself; an operator before its operand; an operator between two, of a level; `?`, `:`, `(`, `)`
pub data Kind : Type 0 where
  operand prefix question colon opening closing other : Kind
  binary : ℕ → Kind

-- the codes from one to another, both included, and what they are
pub record Span : Type 0 where
  pub from : ℕ
  pub upto : ℕ
  pub is : Kind

abbrev pub span : ℕ → ℕ → Kind → Span
span a b k = record { from = a; upto = b; is = k }

unfoldable pub table : List Span
table =
    span 0 0 operand  -- a name
    ∷ span 32 39 operand  -- a literal
    ∷ span 64 146 prefix  -- level 1: an edge
    ∷ span 147 147 prefix  -- level 1: ! ~
    ∷ span 42 49 (binary 2)  -- level 2: ^ ~^ == != > < >= <=
    ∷ span 40 40 (binary 3)  -- level 3: & &&
    ∷ span 50 53 (binary 4)  -- level 4: -> <-> &> <&>
    ∷ span 41 41 (binary 5)  -- level 5: | ||
    ∷ span 60 60 question  -- level 6: ? :
    ∷ span 61 61 colon
    ∷ span 62 62 opening
    ∷ span 63 63 closing
    ∷ []

-- what a code is by a table; none of its spans: other
unfoldable pub kind_in : List Span → ℕ → Kind
kind_in [] c = other
kind_in (s ∷ ss) c = if leb s.from c && leb c s.upto then s.is else kind_in ss c

unfoldable pub kind : ℕ → Kind
kind c = kind_in table c

abbrev pub kind_of : Token → Kind
kind_of t = kind t.code

-- what comes next; other at the end
abbrev pub ahead : List Token → Kind
ahead [] = other
ahead (t ∷ ts) = kind_of t

-- brackets and `:` are not counted
unfoldable pub weight : Kind → ℕ
weight operand = 1
weight prefix = 1
weight question = 1
weight colon = 0
weight opening = 0
weight closing = 0
weight other = 1
weight (binary l) = 1

unfoldable pub counted : List Token → ℕ
counted [] = 0
counted (t ∷ ts) = weight (kind_of t) + counted ts

-- the tokens that two lists hold: codes, and places
unfoldable pub tokens : List ℕ → List ℕ → List Token
tokens [] ps = []
tokens (c ∷ cs) [] = []
tokens (c ∷ cs) (p ∷ ps) = record { code = c; place = p } ∷ tokens cs ps
