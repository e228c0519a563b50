-- Refusal 10 for trees is exact: a tree is accepted exactly if some text, of whatever length, gives it.
--   exact_names    for a good list of names
--   exact_row      so the row of the table is given exactly if no text gives the tree; the writer checks it under
--                  document 01's rules
--   exact_ten      for a number of names from 1 to 32
--   exact_none     so a tree is refused exactly if no text gives it, whatever the names are
--   accepts_exact  and that is what `accepts`, of acceptance, answers
--   gives_any      which names they are does not matter
use Prim.Native.Nat.{ℕ}
use mathlib.Core.Path.{◌≡◌, sym, subst}
use mathlib.Core.Bool.{Bool, true, false}
use mathlib.Core.List.{List}
use lib.ListN.{length}
use Rattle.alf.specs.Names.{names_in}
use Rattle.alf.specs.declared.Rules.{Rules}
use Rattle.alf.specs.declared.Sort.{Sort}
use Rattle.alf.specs.Refusals.{Passed, NameCount, cannot_be}
use Rattle.names.specs.Check.{names_order}
use Rattle.trees.specs.Parts.{expression_at}
use Rattle.acceptance.specs.Accepted.{Accepted}
use Rattle.basics.specs.Deciding.{Decides}
use Rattle.acceptance.proofs.Acceptance.{accepted_bytes}
use Rattle.writer.specs.Writing.{text_at}
use Rattle.text_laws.proofs.WrittenGives.{written_gives}
use Rattle.text_laws.specs.GivingTexts.{TextFor, SomeText, Exactly}
use Rattle.text_laws.proofs.GivenAccepted.{gives_accepted}
use Rattle.text_laws.proofs.SomeNames.{some_names, some_counted, some_good}

-- what some text gives is accepted
pub text_accepted : {ρ : Rules} {names tree : List ℕ} {sort : Sort} → Passed (names_order names)
    → TextFor ρ names sort tree → Accepted ρ (names_in names) sort tree
text_accepted {ρ} {names} {tree} {sort} good t =
    subst (Accepted ρ (names_in names) sort) t.bytes (gives_accepted good t.gives)

pub given_accepted : {ρ : Rules} {n : ℕ} {sort : Sort} {tree : List ℕ} → SomeText ρ n sort tree
    → Accepted ρ n sort tree
given_accepted {ρ} {n} {sort} {tree} s =
    subst (λ (k : ℕ). Accepted ρ k sort tree) s.counted (text_accepted s.good s.given)

-- an accepted tree is given by its written text
pub accepted_text : {ρ : Rules} {names tree : List ℕ} {sort : Sort} → Passed (names_order names)
    → Accepted ρ (names_in names) sort tree → TextFor ρ names sort tree
accepted_text {ρ} {names} {tree} good a =
    record {
      text = text_at names tree;
      expression = expression_at tree (names_in names) (length tree);
      gives = written_gives (record { passed = good }) a;
      bytes = accepted_bytes a;
    }

pub accepted_given : {ρ : Rules} {n : ℕ} {sort : Sort} {tree : List ℕ} → NameCount n → Accepted ρ n sort tree
    → SomeText ρ n sort tree
accepted_given {ρ} {n} {sort} {tree} (l, h) a =
    record {
      names = some_names n;
      good = some_good n l h;
      counted = some_counted n;
      given =
          accepted_text (some_good n l h) (subst (λ (k : ℕ). Accepted ρ k sort tree) (sym (some_counted n)) a);
    }

-- for a good list of names
module _ {ρ : Rules} {names : List ℕ} (good : Passed (names_order names)) {sort : Sort} {tree : List ℕ} where
  pub exact_names : Exactly (Accepted ρ (names_in names) sort tree) (TextFor ρ names sort tree)
  exact_names = (accepted_text good, text_accepted good)

  -- the row of the table; the writer has it under document 01's rules
  pub exact_row : (p : ℕ) → Exactly (cannot_be (Accepted ρ (names_in names) sort tree → ⊥) p)
      (cannot_be (TextFor ρ names sort tree → ⊥) p)
  exact_row p = (
    λ r. record { given = λ t. r.given (text_accepted good t); there = r.there },
    λ r. record { given = λ a. r.given (accepted_text good a); there = r.there },
  )

-- for a number of names
module _ {ρ : Rules} {n : ℕ} (count : NameCount n) {sort : Sort} {tree : List ℕ} where
  pub exact_ten : Exactly (Accepted ρ n sort tree) (SomeText ρ n sort tree)
  exact_ten = (accepted_given count, given_accepted)

  pub exact_none : Exactly (Accepted ρ n sort tree → ⊥) (SomeText ρ n sort tree → ⊥)
  exact_none = ((λ f s. f (given_accepted s)), (λ f a. f (accepted_given count a)))

-- so what the code answers about a tree is whether some text gives it
pub accepts_exact : (ρ : Rules) {n : ℕ} → NameCount n → (sort : Sort) (tree : List ℕ) (b : Bool)
    → Decides b (Accepted ρ n sort tree)
    → Decides b (SomeText ρ n sort tree)
unfolding Decides
accepts_exact ρ count sort tree true d = accepted_given count d
accepts_exact ρ count sort tree false d = (exact_none count).0 d

-- which names they are does not matter
pub gives_any : {ρ : Rules} {n : ℕ} {sort : Sort} {tree names : List ℕ} → SomeText ρ n sort tree
    → Passed (names_order names) → names_in names ≡ n → TextFor ρ names sort tree
gives_any {ρ} {sort = sort} {tree = tree} s good e =
    accepted_text good (subst (λ (k : ℕ). Accepted ρ k sort tree) (sym e) (given_accepted s))
