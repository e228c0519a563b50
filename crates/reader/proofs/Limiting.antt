-- What each way of `limit` comes to: 8, or read. Main names: limit_boolean, limit_asks, limit_over,
-- limit_within, over_told.
use Rattle.std.specs.Prelude.{None, Some, Ok, Err}
use Rattle.basics.specs.Refusing.{refusal}
use Rattle.basics.specs.declared.Refusal.{Refusal}
use Rattle.std.specs.Prelude.{if◌then◌else◌}
use mathlib.Core.Path.{◌≡◌, refl, sym, ap, subst, ◌∙◌}
use mathlib.Core.Bool.{Bool, true, false}
use mathlib.Core.List.{List}
use Prim.Native.Nat.{ℕ, ◌≤◌}
use native.Mathlib.Omega.{arith}
use lib.ListN.{length}
use Rattle.alf.specs.Names.{names_in}
use Rattle.alf.specs.declared.Rules.{Rules}
use Rattle.alf.specs.declared.Sort.{Sort}
use Rattle.alf.specs.Steady.{meant}
use Rattle.alf.specs.declared.Sort.TheVariants as the_sort
use Rattle.alf.specs.Expressions.{Vector, Expression, boolean, vector, ExpressionOver}
use Rattle.alf.specs.Alternatives.{alternatives, over_limit, number_of_alternatives, steps_of, tests_of}
use Rattle.alf.specs.Bytes.{bytes_of}
use Rattle.basics.proofs.Bools.{never}
use Rattle.grammar.specs.Answers.{padded}
use Rattle.grammar.proofs.Written.{expression_formed}
use Rattle.trees.specs.Parts.{EndsVector, vector_at}
use Rattle.steady_pins.specs.Finding.{Tree}
use Rattle.acceptance.specs.Sizes.{Measured}
use Rattle.acceptance.specs.declared.sizes.Size.{Size}
use Rattle.acceptance.specs.Sizes.{measured}
use Rattle.reader.specs.declared.Read.{Read}
use Rattle.sorting.specs.Lookup.{number_at}
use Rattle.sorting.specs.Sorts.{Sorted, is, faulty, given, asked, sorted, sorted_for}
use Rattle.sorting.specs.Passes.{is_vector}
use Rattle.reader.specs.Reads.{made, refused_with, has_sort}
use Rattle.reader.specs.Reading.{too_large, ReadsText, Clear, Unlimited, unlimited}
use Rattle.reader.proofs.Texts.{nodes_inside}
use Rattle.reader.proofs.Unknowns.{names_numbered}
use Rattle.names.proofs.Few.{names_few}
use Rattle.reader.proofs.Readings.{eight, read_clear}
use Rattle.reader.proofs.Limits.{call_over, vector_ends, vector_is}

-- what `measure` says
module _ (v : Vector) {m : Measured} (e : m ≡ measured v) where
  abbrev told : Bool → Measured
  told b = if b then None else Some
      (record { alternatives = number_of_alternatives v; steps = steps_of v; tests = tests_of v })

  is_told : m ≡ told (over_limit (alternatives v))
  unfolding measured
  is_told = e

  pub over_told : m ≡ None → true ≡ over_limit (alternatives v)
  over_told f = go (over_limit (alternatives v)) (sym f ∙ is_told)
    where
      go : (b : Bool) → None ≡ told b → true ≡ b
      go true h = refl
      go false h = let z : ◌≡◌ {A = ℕ} 0 1 = cc in absurd (omega arith)

  pub within_told : {y : Size} → m ≡ Some y → false ≡ over_limit (alternatives v)
  within_told {y} f = go (over_limit (alternatives v)) (sym f ∙ is_told)
    where
      go : (b : Bool) → Some y ≡ told b → false ≡ b
      go true h = let z : ◌≡◌ {A = ℕ} 0 1 = cc in absurd (omega arith)
      go false h = refl

-- an expression has the sort asked for
asked_sort : (o : Sort) (bytes : ℕ) (x y : Expression) → asked o bytes x ≡ is y
    → has_sort o (is_vector y) ≡ true
unfolding asked has_sort is_vector
asked_sort the_sort.Boolean b (boolean c) y e = let z : boolean c ≡ y = cc in rw (sym z) refl
asked_sort the_sort.Boolean b (vector p) y e = let z : ◌≡◌ {A = ℕ} 0 1 = cc in absurd (omega arith)
asked_sort the_sort.Vector b (boolean c) y e = let z : ◌≡◌ {A = ℕ} 0 1 = cc in absurd (omega arith)
asked_sort the_sort.Vector b (vector p) y e = let z : vector p ≡ y = cc in rw (sym z) refl

given_sort : (o : Sort) (bytes : ℕ) (q : Sorted) (y : Expression) → given q (asked o bytes) ≡ is y
    → has_sort o (is_vector y) ≡ true
unfolding given
given_sort o b (is x) y e = asked_sort o b x y e
given_sort o b (faulty p) y e = let z : ◌≡◌ {A = ℕ} 0 1 = cc in absurd (omega arith)

never_large : (ρ : Rules) (o : Sort) (x : Expression) → has_sort o false ≡ true → has_sort o (is_vector x) ≡ true → (p : ℕ)
    → too_large ρ (is x) p → ⊥
unfolding has_sort is_vector too_large
never_large ρ the_sort.Boolean (boolean c) e f p h = h
never_large ρ the_sort.Boolean (vector v) e f p h = never f
never_large ρ the_sort.Vector x e f p h = never e

record VectorOf (x : Expression) : Type 0 where
  it : Vector
  is_it : x ≡ vector it

vector_of : (o : Sort) (x : Expression) → has_sort o false ≡ false → has_sort o (is_vector x) ≡ true → VectorOf x
unfolding has_sort is_vector
vector_of the_sort.Boolean x e f = never (sym e)
vector_of the_sort.Vector (boolean c) e f = never f
vector_of the_sort.Vector (vector v) e f = record { it = v; is_it = refl }

-- a text that is let through, limit 8 aside
module _ {names text : List ℕ} {sort : Sort} {x : Expression} (k : Clear names text sort x) where
  sort_is : has_sort sort (is_vector x) ≡ true
  unfolding sorted_for
  sort_is = given_sort sort (length text) (sorted (number_at names text) k.tree) x k.sorts

  over_names : ExpressionOver (names_in names) x
  over_names =
      call_over (names_in names) (number_at names text) sort (length text) (expression_formed k.whole)
      (nodes_inside k.whole (names_numbered names text k.tokens k.known)) k.sorts

  small_read : (ρ : Rules) → ((p : ℕ) → too_large ρ (is x) p → ⊥) → ReadsText ρ names text sort (Ok (made x))
  small_read ρ h = read_clear ρ names text sort k.good k.clear k.read k.whole k.known k.sorts h

  large : (ρ : Rules) (p : ℕ) → too_large ρ (is x) p → ReadsText ρ names text sort (refused_with 8 p)
  large ρ p h = eight ρ names text sort k.good k.clear k.read k.whole k.known k.sorts p h

  module _ (v : VectorOf x) where
    few : names_in names ≤ 32
    few = names_few names k.good

    over_vector : ExpressionOver (names_in names) (vector v.it)
    over_vector = rw v.is_it at over_names

    ends : EndsVector (padded (bytes_of x)) (names_in names) (length (bytes_of x))
    ends = rw v.is_it (vector_ends (names_in names) v.it few over_vector)

    it_is : vector_at (padded (bytes_of x)) (names_in names) (length (bytes_of x)) ≡ v.it
    it_is = rw v.is_it (vector_is (names_in names) v.it few over_vector)

    too_large_lem : (ρ : Rules) → true ≡ over_limit (alternatives (meant ρ v.it)) → too_large ρ (is x) 0
    unfolding too_large
    too_large_lem ρ e = rw v.is_it (record { given = sym e; there = refl })

    not_large : (ρ : Rules) → false ≡ over_limit (alternatives (meant ρ v.it)) → (p : ℕ) → too_large ρ (is x) p → ⊥
    unfolding too_large
    not_large ρ e p h = let g = rw v.is_it at h in never (e ∙ g.given)

-- the ways of `limit`
pub record Left (names text : List ℕ) (sort : Sort) (r : Read) : Type 0 where
  pub it : Expression
  pub clear : Clear names text sort it
  pub is_made : r ≡ made it

pub left_over : {ρ : Rules} {names text : List ℕ} {sort : Sort} {r : Read} → Unlimited ρ names text sort (Ok r)
    → Left names text sort r
left_over (unlimited {x = x} k) = record { it = x; clear = k; is_made = refl }

module _ (ρ : Rules) {names text : List ℕ} {sort : Sort} {r : Read} (l : Left names text sort r) where
  pub limit_boolean : has_sort sort false ≡ true → ReadsText ρ names text sort (Ok r)
  limit_boolean e =
      subst (λ (y : Read). ReadsText ρ names text sort (Ok y)) (sym l.is_made)
      (small_read l.clear ρ (never_large ρ sort l.it e (sort_is l.clear)))

  module _ (e : has_sort sort false ≡ false) where
    it_vector : VectorOf l.it
    it_vector = vector_of sort l.it e (sort_is l.clear)

    there : EndsVector r.tree (names_in names) r.len
    unfolding made
    there =
        subst (λ (y : Read). EndsVector y.tree (names_in names) y.len) (sym l.is_made)
        (ends l.clear it_vector)

    pub limit_asks : {tree : List ℕ} → tree ≡ r.tree → length tree ≡ 256 → Tree tree (names_in names) r.len
    limit_asks copied g =
        let few = ap length copied in
        subst (λ (t : List ℕ). Tree t (names_in names) r.len) (sym copied)
        (record { ends = there; few = omega (arith, there.within) })

    measured_is : vector_at r.tree (names_in names) r.len ≡ it_vector.it
    unfolding made
    measured_is =
        ap (λ (y : Read). vector_at y.tree (names_in names) y.len) l.is_made ∙ it_is l.clear it_vector

    module _ {tree : List ℕ} (copied : tree ≡ r.tree) {b : Bool}
        (f : b ≡ over_limit (alternatives (meant ρ (vector_at tree (names_in names) r.len)))) where
      by_limit : b ≡ over_limit (alternatives (meant ρ it_vector.it))
      by_limit =
          f ∙ ap (λ (t : List ℕ). over_limit (alternatives (meant ρ (vector_at t (names_in names) r.len)))) copied
          ∙ ap (λ (v : Vector). over_limit (alternatives (meant ρ v))) measured_is

      pub limit_over : b ≡ true → {f : Refusal} → f ≡ refusal 8 0 → ReadsText ρ names text sort (Err f)
      limit_over o g = rw g (large l.clear ρ 0 (too_large_lem l.clear it_vector ρ (sym o ∙ by_limit)))

      pub limit_within : b ≡ false → ReadsText ρ names text sort (Ok r)
      limit_within o =
          subst (λ (y : Read). ReadsText ρ names text sort (Ok y)) (sym l.is_made)
          (small_read l.clear ρ (not_large l.clear it_vector ρ (sym o ∙ by_limit)))
