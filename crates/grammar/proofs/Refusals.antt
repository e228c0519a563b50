-- Reading stops where the document refuses: at the first token with which no expression goes on, or at the end.
-- Main names: stops_refused, trailing_refused, ends, ends_halted.
use Prim.Native.Nat.{◌<◌}
use native.Mathlib.Omega.{arith}
use mathlib.Core.Path.{◌≡◌, ap}
use mathlib.Core.List.{List, [], ◌∷◌, ◌++◌, append-nil}
use lib.ListN.{length}
use Rattle.grammar.specs.declared.Token.{Token}
use Rattle.grammar.specs.Tokens.{kind_of}
use Rattle.grammar.specs.Grammar.{Tree, Parses, Begins, Refused, at_token, at_end}
use Rattle.grammar.specs.Stops.{rank, Stops}
use Rattle.grammar.specs.Views.{View, going, stopped, halt, Does, read, stop, Ends, whole, refused}
use Rattle.grammar.proofs.Counting.{stuck_within, stuck_after, stuck_end}
use Rattle.grammar.proofs.Continuing.{Cut, cut, Via, via}

via_begins : {ts rest : List Token} (v : Via 6 ts rest) → Begins v.pre
via_begins v = record { more = v.more ++ []; tree = v.tree; whole = v.goes [] }

cut_begins : {ts rest : List Token} {e : Tree} (c : Cut 6 ts e rest) → Begins c.pre
cut_begins {e = e} c = record { more = []; tree = e; whole = c.again [] }

-- a stop within an expression
pub stops_refused : {ts rest : List Token} → Stops 6 ts rest → Refused ts rest
stops_refused {rest = []} s =
    let v = via s in
    at_end (rw (v.split, append-nil) (via_begins v)) (λ e. stuck_end s)
stops_refused {rest = t ∷ r} s =
    let v = via s in
    at_token v.split (via_begins v) (stuck_within v.pre r t (rw v.split at s))

-- a token after a whole expression
pub trailing_refused :
    {ts r : List Token} {t : Token} {e : Tree} → Parses 6 ts e (t ∷ r) → 6 < rank (kind_of t) →
    Refused ts (t ∷ r)
trailing_refused {r = r} {t = t} p h =
    let c = cut p in
    at_token c.split (cut_begins c) (stuck_after c.pre r t (rw c.split at p) h)

-- what a whole text comes to: nothing is left, or something is
abbrev pub left : View → List Token
left (going ts out) = ts
left (stopped ts) = ts

pub ends : {ts : List Token} {w : View} → Does 6 6 (going ts []) w → left w ≡ [] → Ends ts w
ends (read {rest = []} p h e) f = whole p e
ends (read {rest = t ∷ r} p h e) f = absurd (omega (arith, ap length f))
ends (stop s) f = refused (stops_refused s)

pub ends_halted : {ts : List Token} {w : View} → Does 6 6 (going ts []) w → 0 < length (left w) → Ends ts (halt w)
ends_halted (read {rest = []} p h e) f = absurd (omega arith)
ends_halted (read {rest = t ∷ r} p h e) f = refused (trailing_refused p h)
ends_halted (stop s) f = refused (stops_refused s)
