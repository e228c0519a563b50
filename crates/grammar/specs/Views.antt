-- For the parser: its state as lists, which is what is left and what was written, or where it stopped.
--   View                              such a state
--   ahead_v, nothing, head, head_v, tail    what comes next, and what follows it
--   past, push, halt, eaten           a single step each
--   Does, Ends                        what reading an expression of a level, and a whole text, comes to
use Rattle.std.specs.Prelude.{ℕ, ◌<◌, ◌≡◌, List, [], ◌∷◌, ◌++◌, eqb, if◌then◌else◌}
use Rattle.grammar.specs.declared.Token.{Token}
use Rattle.grammar.specs.Tokens.{Kind, other, ahead}
use Rattle.grammar.specs.Grammar.{Tree, nodes, Parses, Refused, Expression}
use Rattle.grammar.specs.Stops.{rank, Stops}

pub data View : Type 0 where
  going : List Token → List Token → View
  stopped : List Token → View

-- what comes next; other at the end and after a stop
abbrev pub ahead_v : View → Kind
ahead_v (going ts out) = ahead ts
ahead_v (stopped ts) = other

-- the next token; none has the code 255
abbrev pub nothing : Token
nothing = record { code = 255; place = 0 }

abbrev pub head : List Token → Token
head [] = nothing
head (t ∷ ts) = t

abbrev pub head_v : View → Token
head_v (going ts out) = head ts
head_v (stopped ts) = nothing

abbrev pub tail : List Token → List Token
tail [] = []
tail (t ∷ ts) = ts

-- past one token
abbrev pub past : View → View
past (going ts out) = going (tail ts) out
past (stopped ts) = stopped ts

-- one node more
abbrev pub push : Token → View → View
push t (going ts out) = going ts (out ++ (t ∷ []))
push t (stopped ts) = stopped ts

-- stopped here
abbrev pub halt : View → View
halt (going ts out) = stopped ts
halt (stopped ts) = stopped ts

-- past a token of that rank, or stopped
abbrev pub eaten : ℕ → View → View
eaten r (going ts out) = if eqb (rank (ahead ts)) r then going (tail ts) out else stopped ts
eaten r (stopped ts) = stopped ts

-- from v to w: an expression of level l was read, and what follows is an operator of no level up to q; or it stopped
pub data Does (l q : ℕ) : View → View → Type 0 where
  read :
      {ts out out' rest : List Token} {e : Tree} →
      Parses l ts e rest →
      q < rank (ahead rest) →
      out' ≡ out ++ nodes e →
      Does l q (going ts out) (going rest out')
  stop : {ts out rest : List Token} → Stops l ts rest → Does l q (going ts out) (stopped rest)
  still : {ts : List Token} → Does l q (stopped ts) (stopped ts)

-- what a whole text comes to
pub data Ends (ts : List Token) : View → Type 0 where
  whole : {out : List Token} {e : Tree} → Expression ts e → out ≡ nodes e → Ends ts (going [] out)
  refused : {rest : List Token} → Refused ts rest → Ends ts (stopped rest)
