-- What the correction of a row comes to, step by step.
--   row_fits, row_room    the row stands in the states
--   put_corrected         the new states put in place are the corrected trace
--   corrected_asked       which may be asked as before
--   rewrite_asked         for the rows that the change reaches
--   corrects              so the answers rewritten there are the correction's
use mathlib.Core.Path.{◌≡◌, refl, ◌∙◌}
use mathlib.Core.List.{List, ◌++◌}
use Prim.Native.Nat.{ℕ, ◌+◌, ◌-◌, ◌*◌, ◌≤◌}
use native.Mathlib.Nat.{suc-mul, mul-le-mul_right}
use native.Mathlib.Omega.{arith}
use lib.ListN.{length, take, drop, length-append, length-drop}
use lib.Seq.{length-take-le}
use Rattle.basics.specs.Words.{greatest_of, listed}
use Rattle.alf.specs.declared.Rules.{Rules}
use Rattle.alf.specs.Values.{state_at}
use Rattle.alf.specs.Alternatives.{Alternative, answer_of}
use Rattle.alf.specs.Traces.{corrected, last_rewritten}
use Rattle.alternatives.specs.InMemory.{alternatives_of_lem}
use Rattle.matcher.specs.Tables.{RowsAsked}
use Rattle.basics.specs.Memory.{placed, Room, Put}
use Rattle.basics.proofs.Stores.{put_placed}
use Rattle.correction.specs.Corrections.{RewriteAsked, CorrectionAsked, Corrects}
use Rattle.states.proofs.CodeLists.{codes_append, codes_take, codes_drop}
use Rattle.alternatives.proofs.Longest.{longest_is}

module _ {tree : List ℕ} {names : ℕ} {states steps tests edges operands : List ℕ} {n r : ℕ}
    {answers new : List ℕ}
    (c : CorrectionAsked tree names states steps tests edges operands n r answers new) where
  pub row_fits : r * names + names ≤ length states
  row_fits = omega (arith, mul-le-mul_right names c.there, suc-mul r names, c.asked.rows.room)

  pub row_room : Room states (r * names) new
  row_room = omega (arith, row_fits, c.full)

  pub put_corrected : {states' : List ℕ} {at : ℕ} → Put states (r * names) new states' at
      → states' ≡ corrected names states r new
  unfolding placed corrected
  put_corrected p = put_placed p row_room ∙ rw c.full refl

  pub corrected_length : length (corrected names states r new) ≡ length states
  unfolding corrected
  corrected_length =
      let f = row_fits in
      let a = length-append (take (r * names) states) (new ++ drop (r * names + names) states) in
      let b = length-append new (drop (r * names + names) states) in
      let t = length-take-le (r * names) states (omega arith) in
      let d = length-drop (r * names + names) states in
      omega (arith, c.full)

  pub corrected_asked : RowsAsked tree names (corrected names states r new) steps tests edges operands n
  unfolding corrected
  corrected_asked =
      record {
        shape = c.asked.shape;
        rows =
            record {
              some = c.asked.rows.some;
              most = c.asked.rows.most;
              few = c.asked.rows.few;
              room = rw corrected_length c.asked.rows.room;
              codes =
                  codes_append (take (r * names) states) (new ++ drop (r * names + names) states)
                  (codes_take (r * names) states c.asked.rows.codes)
                  (codes_append new (drop (r * names + names) states) c.codes
                  (codes_drop (r * names + names) states c.asked.rows.codes));
            };
      }

  -- the states as they are then, K and the number of rows reached
  module _ {states' : List ℕ} {at k m : ℕ} (stored : Put states (r * names) new states' at)
      (longest : k ≡ greatest_of (λ x. x) steps) (reached : m ≡ last_rewritten k n r + 1 - r) where
    pub rewrite_asked : RewriteAsked tree names states' steps tests edges operands n r m answers
    unfolding last_rewritten
    rewrite_asked =
        record {
          asked = rw (put_corrected stored) corrected_asked;
          there = omega (arith, reached, c.there);
          room = c.room;
        }

    abbrev xs : List Alternative
    xs = alternatives_of_lem tree names steps tests edges operands

    pub corrects : {ρ : Rules} {answers' : List ℕ}
        → answers' ≡ placed answers r (listed r m (answer_of (state_at ρ names states') xs))
        → Corrects ρ names xs n r states answers new states' answers'
    corrects {ρ} {answers'} e =
        let i = put_corrected stored in
        let l = longest ∙ longest_is c.asked.shape in
        record { stored = i; rewritten = rw (i, reached, l) at e }
