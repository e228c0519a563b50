-- What a question brings with it: its names are good, its lists fit, its tree is accepted and is its expression.
--   names_good, lists_fit_lem, codes_good         18, 12 and 15 are given nowhere
--   tree_accepted, tree_whole, tree_text      10 is not given, and the tree stands for the expression
--   tree_is, formula_is                       the pattern, the boolean expression
--   question_of                               rules, a trace and an accepted tree make one, so something is said
use Prim.Native.Nat.{ℕ}
use native.Mathlib.Omega.{arith}
use mathlib.Core.Path.{◌≡◌, refl, ap}
use mathlib.Core.List.{List}
use lib.ListN.{length}
use Rattle.alf.specs.declared.Rules.{Rules}
use Rattle.alf.specs.Names.{names_in}
use Rattle.alf.specs.declared.Sort.{Sort}
use Rattle.alf.specs.declared.Sort.TheVariants as sort
use Rattle.alf.specs.Expressions.{Expression, vector}
use Rattle.alf.specs.Decoder.{Stack, Decodes, top_boolean, top_vector}
use Rattle.alf.specs.Steady.{meant}
use Rattle.alf.specs.Refusals.{Passed}
use Rattle.names.specs.Check.{names_order}
use Rattle.trace_format.specs.Format.{Trace, fewest_of, file_of}
use Rattle.trace_laws.proofs.Widths.{fewest_fits}
use Rattle.trees.specs.Parts.{top, expression_at, boolean_at}
use Rattle.acceptance.proofs.Acceptance.{accepted_decodes}
use Rattle.acceptance.specs.Accepted.{Accepted}
use Rattle.states.specs.FirstBadCode.{Codes}
use Rattle.judging.specs.Orders.{Rows}
use Rattle.matching_calls.specs.Matching.{expression}
use Rattle.writer.specs.Trees.{text}
use Rattle.writer.specs.Writing.{text_at, Named}
use Rattle.text_laws.proofs.WrittenGives.{written_gives}
use Rattle.text_laws.proofs.GivenAccepted.{gives_accepted, gives_decodes}
use Rattle.text_laws.proofs.ReadTrees.{sorted_vector}
use Rattle.demands.specs.Questions.{Asked, Question, Formula, names_of, tree_of, meant_by}

module _ {A : Type 0} {into : A → Expression} {sort : Sort} {file given_text : List ℕ}
    (q : Asked into sort file given_text) where
  pub names_good : Passed (names_order q.names)
  unfolding Passed
  names_good = (
    λ p a. a.given q.trace.slots,
    (λ p a. a.given.1 (q.trace.good p a.given.0), tt),
  )

  pub named : Named q.names
  named = record { passed = names_good }

  pub lists_fit_lem : Rows (names_of q) q.rows (length q.states)
  lists_fit_lem =
      record {
        name_count_lem = (q.trace.slots.some, q.trace.slots.few);
        row_count = (q.trace.lists.some, q.trace.lists.few);
        all = q.trace.lists.states_all;
      }

  pub codes_good : Codes q.states
  codes_good i l = omega (arith, q.trace.codes i l)

  pub tree_accepted : Accepted q.rules (names_of q) sort (tree_of q)
  tree_accepted = gives_accepted names_good q.given

  pub tree_whole : expression_at (tree_of q) (names_of q) (length (tree_of q)) ≡ into q.pattern
  unfolding Decodes top
  tree_whole = ap top (gives_decodes names_good q.given)

  pub tree_text : text_at q.names (tree_of q) ≡ text q.names (into q.pattern)
  unfolding text_at
  tree_text = ap (text q.names) tree_whole

module _ {file given_text : List ℕ} where
  pub tree_is : (q : Question file given_text) → expression q.rules (tree_of q) (names_of q) ≡ meant_by q
  unfolding Decodes top_vector
  tree_is q = ap (λ (s : Stack). meant q.rules (top_vector s)) (gives_decodes (names_good q) q.given)

  pub formula_is : (q : Formula file given_text) → boolean_at (tree_of q) (names_of q) (length (tree_of q)) ≡ q.pattern
  unfolding Decodes top_boolean
  formula_is q = ap top_boolean (gives_decodes (names_good q) q.given)

-- a trace and an accepted tree are asked by the trace's file and the tree's text
module _ {names times states : List ℕ} {rows : ℕ} (t : Trace names times states rows) {tree : List ℕ}
    {ρ : Rules} (a : Accepted ρ (names_in names) sort.Vector tree) where
  slots_named : Named names
  unfolding Passed
  slots_named =
      record {
        passed = (λ p x. x.given t.slots, (λ p x. x.given.1 (t.good p x.given.0), tt));
      }

  pub question_of : Question (file_of names times states rows) (text_at names tree)
  unfolding Decodes top
  question_of =
      let v = sorted_vector a.expression a.sorted in
      let d : Decodes (names_in names) tree (vector v.p) = rw v.is_vector_lem at (accepted_decodes a) in
      record {
        rules = ρ;
        names = names;
        times = times;
        states = states;
        rows = rows;
        trace = t;
        widths = fewest_of times;
        fitting = fewest_fits t;
        read = refl;
        pattern = v.p;
        given = rw (ap top d) at (written_gives slots_named a);
      }
