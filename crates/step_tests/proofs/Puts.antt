-- The tests of a step in memory, one part after the other, and what is asked for each part.
--   put_none, put_one, put_then      no test, one test, some tests behind others
--   put_lengths, one_lengths         the lists stay as long as they are
--   long                             no alternative is longer than the longest
--   beyond                           a step that there is not
use Prim.Native.Nat.{ℕ, zero, suc, ◌+◌, ◌≤◌}
use native.Mathlib.Omega.{arith}
use native.Mathlib.Nat.{add-zero}
use mathlib.Core.Path.{◌≡◌, refl, ap, sym, ◌∙◌}
use mathlib.Core.List.{List, [], ◌∷◌, ◌++◌, map, map-append}
use lib.ListN.{length, get_or, length-append, length-map, length-set, get_or-eq_default}
use lib.Seq.{sets, length-sets}
use Rattle.basics.specs.Words.{greatest_of}
use Rattle.basics.proofs.Stores.{sets_append}
use Rattle.alf.specs.Expressions.{Edge, name}
use Rattle.alf.specs.Bytes.{edge_number}
use Rattle.alf.specs.Alternatives.{Test, test, Step, Alternative}
use Rattle.acceptance.specs.Sizes.{alternative_at}
use Rattle.step_tests.specs.OperandPlaces.{place_of, edge_of, end_of, numbers, ends}
use Rattle.step_tests.specs.Steps.{step_at, Placing, Put, OnePut}

pub put_none : {from : ℕ} {edges operands : List ℕ} → Put [] from edges operands from edges operands
put_none = record { next_is = sym (add-zero _); edges_is = refl; operands_is = refl }

pub put_one : {e : Edge} {k place from next : ℕ} {edges operands edges' operands' : List ℕ}
    → edge_number e ≡ k
    → OnePut k place from edges operands next edges' operands'
    → Put (test e (name place) ∷ []) from edges operands next edges' operands'
unfolding edge_of end_of place_of
put_one d h = record { next_is = h.next_is; edges_is = rw d h.edges_is; operands_is = h.operands_is }

sets_then : (f : Test → ℕ) (s u : Step) (from : ℕ) (l : List ℕ) {next : ℕ} {l' l'' : List ℕ}
    → next ≡ from + length s
    → l' ≡ sets l from (map f s) → l'' ≡ sets l' next (map f u) → l'' ≡ sets l from (map f (s ++ u))
sets_then f s u from l e d g =
    g ∙ rw (d, e, map-append f s u, ← length-map s f) (sets_append l from (map f s) (map f u))

pub put_then : {s u : Step} {from next last : ℕ} {edges operands edges' operands' edges'' operands'' : List ℕ}
    → Put s from edges operands next edges' operands'
    → Put u next edges' operands' last edges'' operands''
    → Put (s ++ u) from edges operands last edges'' operands''
put_then {s} {u} {from} {edges = edges} {operands = operands} h k =
    record {
      next_is = let l = length-append s u in omega (arith, h.next_is, k.next_is);
      edges_is = sets_then edge_of s u from edges h.next_is h.edges_is k.edges_is;
      operands_is = sets_then end_of s u from operands h.next_is h.operands_is k.operands_is;
    }

pub put_lengths : {s : Step} {from next : ℕ} {edges operands edges' operands' : List ℕ}
    → Put s from edges operands next edges' operands'
    → (length edges' ≡ length edges) × (length operands' ≡ length operands)
put_lengths {s} {from} {edges = edges} {operands = operands} h = (
  ap length h.edges_is ∙ length-sets edges from (numbers s),
  ap length h.operands_is ∙ length-sets operands from (ends s),
)

pub one_lengths : {k place from next : ℕ} {edges operands edges' operands' : List ℕ}
    → OnePut k place from edges operands next edges' operands'
    → (length edges' ≡ length edges) × (length operands' ≡ length operands)
one_lengths {k} {place} {from} {edges = edges} {operands = operands} h = (
  ap length h.edges_is ∙ length-set edges from k,
  ap length h.operands_is ∙ length-set operands from place,
)

-- no alternative is longer than the longest
pub long : (xs : List Alternative) (a : ℕ) → length (get_or xs a []) ≤ greatest_of length xs
unfolding greatest_of
long [] a = omega arith
long (x ∷ xs) zero = omega arith
long (x ∷ xs) (suc a) = let e = long xs a in omega arith

module _ {pins t : List ℕ} {names end a j : ℕ} {edges operands : List ℕ} {from : ℕ}
    (h : Placing pins t names end a j edges operands from) where
  -- a step that there is not
  pub beyond : {s : ℕ} → length (alternative_at name pins t names end a) ≡ s → s ≤ j
      → Put (step_at pins t names end a j) from edges operands from edges operands
  beyond g l = rw (get_or-eq_default (alternative_at name pins t names end a) [] {n = j} (omega arith)) put_none
