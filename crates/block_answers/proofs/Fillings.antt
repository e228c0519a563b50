-- Laws of filling the lists of all rows.
--   numbers_to, tries_to, block_filled_lem     the rows of a block
--   Filling, filling_first, -asked, -next, -end          the rows before `from`
use mathlib.Core.Path.{◌≡◌, refl, ap, ◌∙◌}
use mathlib.Core.List.{List}
use Prim.Native.Nat.{ℕ, suc, ◌+◌, ◌-◌, ◌<◌, ◌≤◌, min}
use native.Mathlib.Omega.{arith}
use lib.ListN.{length, get_or}
use Rattle.basics.specs.Words.{listed}
use Rattle.basics.proofs.Listed.{listed_length}
use Rattle.basics.proofs.Stores.{front_length}
use Rattle.alf.specs.declared.Rules.{Rules}
use Rattle.alf.specs.Values.{state_at}
use Rattle.alf.specs.Windows.{numbered}
use Rattle.alf.specs.Expressions.{Boolean}
use Rattle.alf.specs.Alternatives.{Alternative, answer_of}
use Rattle.alf.specs.Alternatives as alternatives
use Rattle.alternatives.specs.InMemory.{alternatives_of_lem}
use Rattle.state_columns.specs.Entries.{Over}
use Rattle.columns.specs.Passes.{PassTo, TriesTo}
use Rattle.state_columns.proofs.Overs.{over_same}
use Rattle.matcher.specs.Tables.{FillAsked, Filled}
use Rattle.block_answers.proofs.Rests.{Rest, rest_first, rest_next, rest_end}
use Rattle.blocks.specs.Rows.{Answered, BlocksAsked}
use Rattle.blocks.proofs.Readying.{rows_fewer, ready_same}
use Rattle.block_answers.specs.Filling.{FillBlock, BlockFilled}

module _ {tree : List ℕ} {names : ℕ} {states steps counts ends slots : List ℕ} {many : ℕ} {tables : List ℕ}
    {from m : ℕ} {cols answers tried : List ℕ}
    (asked : FillBlock tree names states steps counts ends slots many tables from m cols answers tried) where
  pub numbers_to : PassTo m answers from
  numbers_to = record { few = asked.block.wide; other = asked.answers_room }

  module _ (ρ : Rules) {best tries : List ℕ}
      (a : Answered ρ tree names states steps counts ends slots many tables from m best tries) where
    pub tries_to : TriesTo tries m tried from
    tries_to = record { few = asked.block.wide; other = asked.tried_room; small = a.few }

    -- no block has row 0
    row_some : (i : ℕ) → from + i ≡ suc (from + i - 1)
    row_some i = omega (arith, asked.block.start)

    pub block_filled_lem : {answers' tried' : List ℕ} → Over answers from m (λ i. numbered (get_or best i 0)) answers'
        → Over tried from m (λ i. get_or tries i 0) tried'
        → BlockFilled ρ tree names states steps counts ends slots many tables from m answers tried answers' tried'
    unfolding answer_of alternatives.tries
    block_filled_lem p q =
        record {
          answered = λ edges operands g h k.
              over_same _ p (λ i l. rw (row_some i)
              (ap numbered (rw (row_some i) at (a.best_is edges operands g h k i l))));
          counted = λ edges operands g h k.
              over_same _ q (λ i l. rw (row_some i) (rw (row_some i) at (a.tries_is edges operands g h k i l)));
        }

-- the rows before `from`: their answers and numbers tried
pub record Filling (f g : ℕ → ℕ) (n : ℕ) (answers₁ tried₁ answers tried cols₁ cols : List ℕ) (from : ℕ) : Type 0 where
  pub start : 16 ≤ from
  pub within : from ≤ n
  pub answered : Rest f answers₁ answers from
  pub counted : Rest g tried₁ tried from
  pub long : length cols ≡ length cols₁

module _ {tree : List ℕ} {names : ℕ} {states steps counts edges operands : List ℕ} {n : ℕ} {answers₀ tried₀ : List ℕ}
    {ends slots : List ℕ} {many : ℕ} {tables cols₀ : List ℕ}
    (fill : FillAsked tree names states steps counts edges operands n answers₀ tried₀)
    (asked : BlocksAsked tree names steps counts edges operands n ends slots many tables cols₀) where
  pub head_asked : FillAsked tree names states steps counts edges operands 16 answers₀ tried₀
  head_asked =
      record {
        asked = record { shape = fill.asked.shape; rows = rows_fewer 16 asked.start fill.asked.rows };
        room = omega (arith, fill.room, asked.start);
        space = omega (arith, fill.space, asked.start);
      }

  pub filling_first : (f g : ℕ → ℕ) (answers tried : List ℕ) → Filling f g n answers tried answers tried cols₀ cols₀ 16
  filling_first f g answers tried =
      record {
        start = omega arith;
        within = asked.start;
        answered = rest_first answers;
        counted = rest_first tried;
        long = refl;
      }

  -- the first 16 rows leave the lengths
  module _ {st : Boolean → ℕ → ℕ} {xs : List Alternative} {answers₁ tried₁ : List ℕ}
      (w : Filled st xs 16 answers₀ tried₀ answers₁ tried₁) where
    pub answers_long : length answers₁ ≡ length answers₀
    answers_long =
        ap length w.answered
        ∙ front_length answers₀ (listed 0 16 (answer_of st xs))
        (omega (arith, listed_length 0 16 (answer_of st xs), fill.room, asked.start))

    pub tried_long : length tried₁ ≡ length tried₀
    tried_long =
        ap length w.counted
        ∙ front_length tried₀ (listed 0 16 (alternatives.tries st xs))
        (omega (arith, listed_length 0 16 (alternatives.tries st xs), fill.space, asked.start))

  module _ {f g : ℕ → ℕ} {answers₁ tried₁ answers tried cols : List ℕ} {from : ℕ}
      (h : Filling f g n answers₁ tried₁ answers tried cols₀ cols from) where
    pub cut_asked : {m : ℕ} → from < n → m ≡ min (n - from) 1024 → length answers₁ ≡ length answers₀
        → length tried₁ ≡ length tried₀
        → FillBlock tree names states steps counts ends slots many tables from m cols answers tried
    cut_asked {m} l e a b =
        record {
          block =
              record {
                ready = ready_same h.long asked.ready;
                rows = rows_fewer (from + m) (omega arith) fill.asked.rows;
                start = h.start;
                wide = omega arith;
              };
          answers_room = omega (arith, h.answered.long, fill.room);
          tried_room = omega (arith, h.counted.long, fill.space);
        }

module _ (ρ : Rules) {tree : List ℕ} {names : ℕ} {states steps counts edges operands : List ℕ} {n : ℕ}
    {answers₀ tried₀ : List ℕ} {ends slots : List ℕ} {many : ℕ} {tables cols₀ : List ℕ}
    (fill : FillAsked tree names states steps counts edges operands n answers₀ tried₀)
    (asked : BlocksAsked tree names steps counts edges operands n ends slots many tables cols₀) where
  abbrev f : ℕ → ℕ
  f = answer_of (state_at ρ names states) (alternatives_of_lem tree names steps counts edges operands)

  abbrev g : ℕ → ℕ
  g = alternatives.tries (state_at ρ names states) (alternatives_of_lem tree names steps counts edges operands)

  module _ {answers₁ tried₁ answers tried cols : List ℕ} {from : ℕ}
      (h : Filling f g n answers₁ tried₁ answers tried cols₀ cols from) where
    pub filling_next : {m : ℕ} {answers' tried' cols' : List ℕ} → from < n → m ≡ min (n - from) 1024
        → Filled (state_at ρ names states) (alternatives_of_lem tree names steps counts edges operands) 16 answers₀ tried₀
        answers₁ tried₁ → length cols' ≡ length cols
        → BlockFilled ρ tree names states steps counts ends slots many tables from m answers tried answers' tried'
        → Filling f g n answers₁ tried₁ answers' tried' cols₀ cols' (from + m)
    filling_next {m} l e w c o =
        let a = answers_long fill asked w in
        let b = tried_long fill asked w in
        let s = fill.asked.shape in
        let p = o.answered edges operands asked.prepared s.enough_tests s.known.enough in
        let q = o.counted edges operands asked.prepared s.enough_tests s.known.enough in
        record {
          start = omega (arith, h.start);
          within = omega arith;
          answered = rest_next h.answered h.start (omega (arith, h.answered.long, fill.room)) p;
          counted = rest_next h.counted h.start (omega (arith, h.counted.long, fill.space)) q;
          long = c ∙ h.long;
        }

    pub filling_end : n ≤ from
        → Filled (state_at ρ names states) (alternatives_of_lem tree names steps counts edges operands) 16 answers₀ tried₀
        answers₁ tried₁
        → Filled (state_at ρ names states) (alternatives_of_lem tree names steps counts edges operands) n answers₀ tried₀
        answers tried
    filling_end l o =
        record {
          answered = rest_end h.answered answers₀ l asked.start fill.room o.answered h.within;
          counted = rest_end h.counted tried₀ l asked.start fill.space o.counted h.within;
        }
