-- Each operand of the alternatives of an accepted tree, named by the place where it ends, is a boolean part that some
-- text gives by itself: its nodes are no more and its brackets nest no deeper than those of the whole.
--   deeper               an operand's brackets nest no deeper than those of its place
--   alone_accepted       a boolean expression by itself
--   operand_there        one that lies in the tree
--   operands_there       each operand of a vector expression that lies in the tree
--   each_places          the same of its operands by their places, pins too
--   tree_operands        each operand of an accepted tree
use Rattle.std.specs.Prelude.{if◌then◌else◌}
use Prim.Native.Nat.{ℕ, zero, suc, ◌+◌, ◌-◌, ◌*◌, ◌≤◌, min}
use native.Mathlib.Omega.{arith}
use mathlib.Core.Path.{◌≡◌, refl, ap}
use mathlib.Core.Logic.{◌⊎◌, inl, inr}
use mathlib.Core.Bool.{Bool, true, false}
use mathlib.Core.List.{List, []}
use lib.Dec.{eqb, ltb}
use lib.ListN.{length, take, drop, replicate}
use borrow.Author.Tests.{eq-eqb, ne_eqb}
use Rattle.basics.proofs.Bools.{equal?}
use Rattle.alf.specs.declared.Rules.{Rules}
use Rattle.alf.specs.declared.Sort.TheVariants as sort
use Rattle.alf.specs.Values.{old_rules_lem}
use Rattle.alf.specs.Expressions.{Boolean, name, stays, Vector, edge, join, while, with, on_right, on_left}
use Rattle.alf.specs.Expressions.{Expression, boolean, vector, Over, VectorOver, ExpressionOver}
use Rattle.alf.specs.Bytes.{boolean_bytes, vector_bytes, bytes_of, Encodes}
use Rattle.alf.specs.Decoder.{Decodes, top_vector}
use Rattle.trees.specs.Parts.{vector_at}
use Rattle.trees.specs.Brackets.{level_of, join_level, bracketed, boolean_depth, vector_depth, depth_of}
use Rattle.acceptance.specs.Accepted.{sort_of_lem, over_size, Accepted}
use Rattle.acceptance.proofs.Acceptance.{accepted_decodes}
use Rattle.steady_pins.specs.Pinned.{pin_at, pinned, by_places}
use Rattle.steady_pins.specs.Finding.{marked, pins_of}
use Rattle.steady_pins.specs.Finding as besides
use Rattle.steady_pins.proofs.Placed.{Placed, on_edge, on_join, behind, ahead}
use Rattle.steady_pins.proofs.PinEntries.{Entries, zeros_entries, near_alone, marked_entries}
use Rattle.step_tests.specs.OperandPlaces.{place_of}
use Rattle.step_tests.proofs.Places.{Each, of_edge, of_join, of_while}
use Rattle.text_laws.proofs.ReadTrees.{sorted_vector}
use Rattle.listed_acceptance.specs.Lists.{Operand}
use Rattle.listed_acceptance.proofs.Alone.{alone}
use Rattle.rewritten_laws.proofs.Lying.{Lies, lies_whole, lies_first, lies_second, lies_within, lies_part}

-- brackets around an operand nest no less deep than those inside
deeper : (place : ℕ) (e : Expression) (d : ℕ) → d ≤ bracketed place e d
unfolding bracketed
deeper place e d = go (ltb place (level_of e))
  where
    go : (b : Bool) → d ≤ (if b then 1 + d else d)
    go true = omega arith
    go false = omega arith

-- a boolean expression by itself
alone_accepted : (names : ℕ) (c : Boolean) → Over (min names 32) c → length (boolean_bytes c) ≤ 256
    → boolean_depth c ≤ 32
    → Accepted old_rules_lem names sort.Boolean (boolean_bytes c)
unfolding bytes_of ExpressionOver sort_of_lem over_size depth_of
alone_accepted names c o few d =
    record {
      expression = boolean c;
      encodes = record { bytes = refl; over = o };
      sorted = refl;
      tokens = few;
      brackets = d;
      sized = refl;
    }

module _ (tree : List ℕ) (names : ℕ) (few : length tree ≤ 256) where
  -- as a part of the tree
  operand_there : {end : ℕ} (c : Boolean) → Over (min names 32) c → boolean_depth c ≤ 32
      → Lies tree end (boolean_bytes c)
      → Operand tree names end
  operand_there {end} c o d l =
      let w = lies_within l in
      let start = length l.before in
      let a : Accepted old_rules_lem names sort.Boolean (take (end - start) (drop start tree)) =
      rw (lies_part l) (alone_accepted names c o (omega (arith, l.ends)) d) in
      let (e, s) = alone tree names end start w (omega (arith, l.ends)) a in
      record { ends = e; start = start; from = s; accepted = a }

  operands_there : (p : Vector) (end : ℕ) → Lies tree end (vector_bytes p) → VectorOver (min names 32) p
      → vector_depth p ≤ 32
      → Placed (λ i c. Operand tree names i) end p
  unfolding vector_bytes VectorOver vector_depth
  operands_there (edge e c) end l (k, o) d =
      let h = deeper 1 (boolean c) (boolean_depth c) in
      on_edge {end = end} {e = e} {c = c}
      (operand_there c o (omega (arith, h, d)) (lies_second [] (boolean_bytes c) _ l)) (omega (arith, l.ends))
  operands_there (join j p q) end l (o, u) d =
      let h = deeper (join_level j) (vector p) (vector_depth p) in
      let k = deeper (join_level j - 1) (vector q) (vector_depth q) in
      on_join {end = end} {j = j} {p = p} {q = q}
      (operands_there p _ (lies_first (vector_bytes p) (vector_bytes q) _ l) o (omega (arith, h, d)))
      (operands_there q _ (lies_second (vector_bytes p) (vector_bytes q) _ l) u (omega (arith, k, d)))
      (omega (arith, l.ends))
  operands_there (while on_right p c) end l (o, u) d =
      let h = deeper 3 (vector p) (vector_depth p) in
      let k = deeper 2 (boolean c) (boolean_depth c) in
      behind {end = end} {p = p} {c = c}
      (operands_there p _ (lies_first (vector_bytes p) (boolean_bytes c) _ l) o (omega (arith, h, d)))
      (operand_there c u (omega (arith, k, d)) (lies_second (vector_bytes p) (boolean_bytes c) _ l))
      (omega (arith, l.ends))
  operands_there (while on_left p c) end l (o, u) d =
      let h = deeper 2 (vector p) (vector_depth p) in
      let k = deeper 3 (boolean c) (boolean_depth c) in
      ahead {end = end} {p = p} {c = c}
      (operands_there p _ (lies_second (boolean_bytes c) (vector_bytes p) _ l) o (omega (arith, h, d)))
      (operand_there c u (omega (arith, k, d)) (lies_first (boolean_bytes c) (vector_bytes p) _ l))
      (omega (arith, l.ends))

-- what holds of each operand's place and of each pin holds of each operand of the expression by its places
module _ (P : ℕ → Type 0) {pins : List ℕ} (good : Entries P pins) where
  pinned_each : (n end : ℕ) {p : Vector} → Each (λ c. P (place_of c)) p
      → Each (λ c. P (place_of c)) (pinned name pins n end p)
  unfolding pinned place_of
  pinned_each zero end h = h
  pinned_each (suc n) end {p} h = go (equal? (pin_at pins end n) 0) (pinned_each n end h)
    where
      go : (pin_at pins end n ≡ 0) ⊎ (pin_at pins end n ≡ 0 → ⊥) → Each (λ c. P (place_of c)) (pinned name pins n end p)
          → Each (λ c. P (place_of c)) (if eqb (pin_at pins end n) 0 then pinned name pins n end p
          else join with (pinned name pins n end p) (edge stays (name (pin_at pins end n))))
      go (inl e) r = rw (eq-eqb _ 0 e) r
      go (inr d) r = rw (ne_eqb _ 0 d) (of_join r (of_edge (good.is ((end - 1) * 32 + n) (omega arith))))

  each_places : {end : ℕ} {p : Vector} → Placed (λ i c. P i) end p
      → Each (λ c. P (place_of c)) (by_places name pins end p)
  unfolding by_places place_of
  each_places {end} (on_edge r u) = pinned_each 32 end (of_edge r)
  each_places {end} (on_join a b u) = pinned_each 32 end (of_join (each_places a) (each_places b))
  each_places (behind a r u) = of_while (each_places a) r
  each_places (ahead a r u) = of_while (each_places a) r

found_entries : (ρ : Rules) (P : ℕ → Type 0) (tree : List ℕ) (names end : ℕ)
    → Placed (λ i c. P i) end (vector_at tree names end) → Entries P (pins_of ρ tree names end)
unfolding pins_of
found_entries ρ P tree names end h = go ρ.steady_pins
  where
    go : (q : Bool) → Entries P
        (if q then marked end (vector_at tree names end) besides.alone besides.alone (replicate 8192 0)
        else replicate 8192 0)
    go true = marked_entries P h (near_alone P) (near_alone P) (zeros_entries P 8192)
    go false = zeros_entries P 8192

pub tree_operands : {ρ : Rules} (tree : List ℕ) (names : ℕ) → Accepted ρ names sort.Vector tree
    → Each (λ c. Operand tree names (place_of c))
    (by_places name (pins_of ρ tree names (length tree)) (length tree) (vector_at tree names (length tree)))
unfolding Decodes top_vector depth_of ExpressionOver bytes_of
tree_operands {ρ} tree names a =
    let v = sorted_vector a.expression a.sorted in
    let d : Decodes names tree (vector v.p) = rw v.is_vector_lem at (accepted_decodes a) in
    let h : Encodes names tree (vector v.p) = rw v.is_vector_lem at a.encodes in
    let b : depth_of (vector v.p) ≤ 32 = rw v.is_vector_lem at a.brackets in
    let l : Lies tree (length tree) (vector_bytes v.p) = rw h.bytes (lies_whole tree) in
    let there : Placed (λ i c. Operand tree names i) (length tree) (vector_at tree names (length tree)) =
    rw (ap top_vector d) (operands_there tree names a.tokens v.p (length tree) l h.over b) in
    each_places (Operand tree names) (found_entries ρ (Operand tree names) tree names (length tree) there) there
