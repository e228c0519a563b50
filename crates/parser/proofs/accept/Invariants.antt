-- `accept` writes the codes and the places of the nodes, one by one, before zeros.
use Prim.Native.Nat.{ℕ, ◌-◌}
use mathlib.Core.List.{List}
use Rattle.parser.proofs.LastState.{Column}
use Rattle.parser.proofs.accept.Given as goal

pub record Copied (codes places nodes : List ℕ) (len i : ℕ) (cs ps : List ℕ) : Type 0 where
  pub codes_are : Column (λ t. t.code) codes places nodes len cs i
  pub places_are : Column (λ t. t.place) codes places nodes len ps i

abbrev pub invariant-loop-i : goal.invariant-loop-i
invariant-loop-i l = Copied l.codes l.places l.nodes l.len l.i l.cs l.ps
