-- What the calls come to, return by return.
-- Main names: short_steps, short_tests, short_edges, short_operands, delivered, enough;
-- comes_18, comes_10, comes_on; refused_18, refused_10, passed_on.
use Rattle.std.specs.Prelude.{Err, Ok}
use Prim.Native.Nat.{ℕ, ◌<◌, ◌≤◌}
use native.Mathlib.Omega.{arith}
use mathlib.Core.Path.{◌≡◌, refl, sym, ◌∙◌}
use mathlib.Core.Bool.{Bool, true, false}
use mathlib.Core.Logic.{inl, inr}
use mathlib.Core.List.{List}
use lib.Dec.{leb}
use lib.ListN.{length}
use borrow.Author.Tests.{leb-true, leb-false}
use Rattle.basics.specs.Refusing.{refusal}
use Rattle.basics.specs.Refusing.{Outcome}
use Rattle.alf.specs.declared.Rules.{Rules}
use Rattle.alf.specs.declared.Sort.TheVariants.{Vector}
use Rattle.alf.specs.Alternatives.{Alternative, number_of_alternatives}
use Rattle.alf.specs.Refusals.{Order, check, no_room, NameCount, Never, RefusedWith, Passed, Comes}
use Rattle.acceptance.specs.Accepted.{Accepted}
use Rattle.basics.specs.Deciding.{Decides}
use Rattle.rewriting.specs.Lists.{alternatives_by, alternatives_at, Ready, step_list, test_list, edge_list, operand_list}
use Rattle.rewriting.specs.Lists.{Long, Filled, Fillable}
use Rattle.rewriting_calls.specs.Calls.{tree_order, room_order, After, Delivers, Rewrites}
use Rattle.basics.specs.Memory.{after}
use Rattle.rewriting.proofs.Holding.{step_entries, test_entries, edge_entries, operand_entries, meant_number}

-- 1 to 32 names
pub no_names : {n : ℕ} → n ≡ 0 → Decides false (NameCount n)
unfolding Decides
no_names e = λ h. omega (arith, h.0)

pub some_names_lem : (n : ℕ) → (n ≡ 0 → ⊥) → Decides (leb n 32) (NameCount n)
unfolding Decides
some_names_lem n f = go (leb n 32) refl
  where
    go : (b : Bool) → leb n 32 ≡ b → Decides b (NameCount n)
    go true e = let l = leb-true n 32 e in (omega arith, omega arith)
    go false e = let l = leb-false n 32 e in λ h. omega (arith, h.1)

-- refused: all lists stay
stay : {xs : List Alternative} {steps tests edges operands : List ℕ} {n p : ℕ}
    → After xs steps tests edges operands steps tests edges operands (Err (refusal n p))
unfolding after
stay = record { steps_are = refl; tests_are = refl; edges_are = refl; operands_are = refl }

-- the end of the call
module _ {xs : List Alternative} {n m k : ℕ} (l : Long xs n m k) where
  steps_need : n ≡ length (step_list xs)
  steps_need = l.alternatives_are ∙ sym (step_entries xs)

  tests_need : m ≡ length (test_list xs)
  tests_need = l.steps_are ∙ sym (test_entries xs)

  edges_need : k ≡ length (edge_list xs)
  edges_need = l.tests_are ∙ sym (edge_entries xs)

  operands_need : k ≡ length (operand_list xs)
  operands_need = l.tests_are ∙ sym (operand_entries xs)

module _ {xs : List Alternative} (steps tests edges operands : List ℕ) {n m k : ℕ} (l : Long xs n m k) where
  abbrev Refuses : ℕ → Outcome → Type 0
  Refuses p r = r ≡ Err (refusal 9 p)
      → Delivers xs steps tests edges operands steps tests edges operands r

  pub short_steps : {r : Outcome} → length steps < n → Refuses n r
  unfolding Comes RefusedWith room_order
  short_steps h e =
      let f = steps_need l in
      rw e
      (record {
        outcome = record { by = inl (refl, record { given = omega arith; there = f }); bare = refl };
        memory = stay;
      })

  module _ (a : n ≤ length steps) where
    abbrev first : Never (check 9 (no_room (length (step_list xs)) (length steps)))
    first = λ p r. let f = steps_need l in omega (arith, r.given)

    pub short_tests : {r : Outcome} → length tests < m → Refuses m r
    unfolding Comes RefusedWith room_order
    short_tests h e =
        let f = tests_need l in
        rw e
        (record {
          outcome = record { by = inr (first, inl (refl, record { given = omega arith; there = f })); bare = refl };
          memory = stay;
        })

    module _ (b : m ≤ length tests) where
      abbrev second : Never (check 9 (no_room (length (test_list xs)) (length tests)))
      second = λ p r. let f = tests_need l in omega (arith, r.given)

      pub short_edges : {r : Outcome} → length edges < k → Refuses k r
      unfolding Comes RefusedWith room_order
      short_edges h e =
          let f = edges_need l in
          rw e (record {
            outcome =
                record {
                  by = inr (first, inr (second, inl (refl, record { given = omega arith; there = f })));
                  bare = refl;
                };
            memory = stay;
          })

      module _ (c : k ≤ length edges) where
        abbrev third : Never (check 9 (no_room (length (edge_list xs)) (length edges)))
        third = λ p r. let f = edges_need l in omega (arith, r.given)

        pub short_operands : {r : Outcome} → length operands < k → Refuses k r
        unfolding Comes RefusedWith room_order
        short_operands h e =
            let f = operands_need l in
            rw e (record {
              outcome =
                  record {
                    by = inr (first, inr (second, inr (third, inl (refl, record { given = omega arith; there = f }))));
                    bare = refl;
                  };
              memory = stay;
            })

        module _ (d : k ≤ length operands) where
          abbrev fourth : Never (check 9 (no_room (length (operand_list xs)) (length operands)))
          fourth = λ p r. let f = operands_need l in omega (arith, r.given)

          pub delivered : {steps' tests' edges' operands' : List ℕ}
              → Filled xs steps tests edges operands steps' tests' edges' operands'
              → Delivers xs steps tests edges operands steps' tests' edges' operands' (Ok n)
          unfolding Comes Passed room_order after
          delivered f =
              record {
                outcome = ((first, (second, (third, (fourth, tt)))), l.alternatives_are);
                memory =
                    record {
                      steps_are = f.steps_are;
                      tests_are = f.tests_are;
                      edges_are = f.edges_are;
                      operands_are = f.operands_are;
                    };
              }

-- room for the lists of an accepted tree
pub enough : {pins tree : List ℕ} {names : ℕ} {steps tests edges operands : List ℕ} {n m k : ℕ}
    → Ready pins tree names → Long (alternatives_by pins tree names) n m k → n ≤ length steps
    → m ≤ length tests
    → k ≤ length edges → k ≤ length operands → Fillable pins tree names steps tests edges operands
enough a l b c d e =
    record {
      ready = a;
      steps_room = omega (arith, l.alternatives_are);
      tests_room = omega (arith, l.steps_are);
      edges_room = omega (arith, l.tests_are);
      operands_room = omega (arith, l.tests_are);
    }

-- 18 and 10 before it
module _ (ρ : Rules) (names : ℕ) (tree : List ℕ) (others : Order) (made : ℕ → Type 0) where
  pub comes_18 : (NameCount names → ⊥)
      → Comes (tree_order ρ names tree others) made (Err (refusal 18 0))
  unfolding Comes RefusedWith tree_order
  comes_18 f = record { by = inl (refl, record { given = f; there = refl }); bare = refl }

  module _ (n : NameCount names) where
    pub comes_10 : (Accepted ρ names Vector tree → ⊥)
        → Comes (tree_order ρ names tree others) made (Err (refusal 10 0))
    unfolding Comes RefusedWith tree_order
    comes_10 f =
        record { by = inr ((λ p r. r.given n), inl (refl, record { given = f; there = refl })); bare = refl }

    pub comes_on : Accepted ρ names Vector tree → (r : Outcome) → Comes others made r
        → Comes (tree_order ρ names tree others) made r
    unfolding Comes RefusedWith Passed tree_order
    comes_on a (Ok k) x = (((λ p r. r.given n), ((λ p r. r.given a), x.0)), x.1)
    comes_on a (Err q) x =
        record { by = inr ((λ p r. r.given n), inr ((λ p r. r.given a), x.by)); bare = x.bare }

-- the number that is made, said in another way
pub comes_made : (o : Order) {made made' : ℕ → Type 0} → ((k : ℕ) → made k → made' k) → (r : Outcome)
    → Comes o made r → Comes o made' r
unfolding Comes
comes_made o f (Ok k) x = (x.0, f k x.1)
comes_made o f (Err q) x = x

module _ (ρ : Rules) (names : ℕ) (tree steps tests edges operands : List ℕ) where
  abbrev Stays : Outcome → Type 0
  Stays r = Rewrites ρ names tree steps tests edges operands steps tests edges operands r

  pub refused_18 : {r : Outcome} → (NameCount names → ⊥) → r ≡ Err (refusal 18 0)
      → Stays r
  refused_18 f e = rw e (record { outcome = comes_18 ρ names tree _ _ f; memory = stay })

  pub refused_10 : {r : Outcome} → NameCount names → (Accepted ρ names Vector tree → ⊥)
      → r ≡ Err (refusal 10 0) → Stays r
  refused_10 n f e = rw e (record { outcome = comes_10 ρ names tree _ _ n f; memory = stay })

  pub passed_on : {steps' tests' edges' operands' : List ℕ} {r : Outcome} → NameCount names
      → Accepted ρ names Vector tree
      → Delivers (alternatives_at ρ tree names) steps tests edges operands steps' tests' edges' operands' r
      → Rewrites ρ names tree steps tests edges operands steps' tests' edges' operands' r
  unfolding number_of_alternatives
  passed_on {r = r} n a d =
      let x = comes_made _ (λ k e. e ∙ meant_number a) r d.outcome in
      record {
        outcome = comes_on ρ names tree _ _ n a r x;
        memory = d.memory;
      }
