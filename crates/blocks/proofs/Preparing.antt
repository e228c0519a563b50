-- Laws of prepared columns.
--   prepared_by               numbered columns with their tables are prepared
--   holding                   columns that are made from prepared ones hold the tests' answers
--   columns_asked, block_asked, answered     the rows of a block
use mathlib.Core.Path.{◌≡◌, refl, sym, ap, ◌∙◌}
use mathlib.Core.List.{List}
use Prim.Native.Nat.{ℕ, ◌+◌, ◌*◌, ◌-◌, ◌/◌, ◌%◌, ◌<◌, ◌≤◌}
use native.Mathlib.Omega.{arith}
use lib.ListN.{length, get_or}
use Rattle.alf.specs.declared.Rules.{Rules}
use Rattle.alf.specs.Expressions.{Boolean}
use Rattle.alf.specs.Values.{state_at}
use Rattle.alf.specs.Windows.{edge_on}
use Rattle.alf.specs.Decoder.{edge_at}
use Rattle.alf.specs.Alternatives.{Test, test_at}
use Rattle.trees.specs.Parts.{boolean_at}
use Rattle.alternatives.specs.InMemory.{test_of, tests_of, Tests, alternatives_of_lem}
use Rattle.alternatives.proofs.Cuts.{test_at_lem, tests_length}
use Rattle.columns.specs.Columns.{Tables, TablesAsked, Columns, ColumnsAsked}
use Rattle.matcher.proofs.Filling.{row_within}
use Rattle.blocks.specs.Numbering.{Numbered}
use Rattle.blocks.specs.Meeting.{Holding, BlockAsked, BlockMatched}
use Rattle.blocks.specs.Rows.{Prepared, PrepareAsked, PreparedOr, AnswerAsked, Answered}

-- the table of edge k at the states x and y
table_at : (e x y : ℕ) → x < 8 → y < 8
    → edge_on (edge_at e) ((8 * x + y) / 8) ((8 * x + y) % 8) ≡ edge_on (edge_at e) x y
table_at e x y h k =
    let a : (8 * x + y) / 8 ≡ x = omega arith in
    let b : (8 * x + y) % 8 ≡ y = omega arith in
    rw (a, b) refl

module _ {tree edges operands kinds ends slots : List ℕ} {r : ℕ}
    (g : Numbered tree edges operands kinds ends slots r) (h : r ≤ 64) {tables : List ℕ}
    (t : Tables kinds r tables) where
  pub prepared_by : (names : ℕ) → Tests tree names edges operands
      → Prepared tree names edges operands ends slots r tables
  unfolding test_at
  prepared_by names q = record { slot = g.slot h; is = is }
    where
      is : (st : Boolean → ℕ → ℕ) (a u : ℕ) → u < length edges
          → st (boolean_at tree names (get_or ends (get_or slots u 0) 0)) a < 8
          → st (boolean_at tree names (get_or ends (get_or slots u 0) 0)) (a + 1) < 8
          → get_or tables (get_or slots u 0 * 64 + (8 * st (boolean_at tree names (get_or ends (get_or slots u 0) 0)) a
          + st (boolean_at tree names (get_or ends (get_or slots u 0) 0)) (a + 1))) 0
          ≡ test_at st a (test_of tree names (get_or edges u 0) (get_or operands u 0))
      is st a u l x y =
          t.at (get_or slots u 0) _ (g.slot h u l) (omega arith)
          ∙ table_at (get_or kinds (get_or slots u 0) 0) _ _ x y
          ∙ ap (test_at st a) (g.is h names q u l)

pub tables_asked : {tree edges operands kinds ends slots tables kinds' : List ℕ} {r : ℕ}
    → PrepareAsked tree edges operands kinds ends slots tables → length kinds' ≡ length kinds → r < 65
    → TablesAsked kinds' r tables
tables_asked asked e h =
    record {
      some = omega (arith, asked.asked.kinds_room);
      room = omega (arith, asked.room);
      few = omega arith;
    }

pub prepared_done : {tree edges operands kinds ends slots tables : List ℕ} {r : ℕ}
    → Numbered tree edges operands kinds ends slots r → Tables kinds r tables
    → PreparedOr tree edges operands ends slots tables r
prepared_done g t = record { operand = g.operand; is = λ h. prepared_by g h t }

pub prepared_none : {tree edges operands ends slots tables : List ℕ} {r : ℕ} → 65 ≤ r
    → PreparedOr tree edges operands ends slots tables r
prepared_none h = record { operand = λ k. absurd (omega arith); is = λ k. absurd (omega arith) }

-- columns made from prepared ones
pub holding : {ρ : Rules} {tree : List ℕ} {names : ℕ} {states ends : List ℕ} {many lo n : ℕ} {tables cols : List ℕ}
    {edges operands slots : List ℕ}
    → Columns ρ tree names states ends many lo n tables cols
    → Prepared tree names edges operands ends slots many tables → length edges ≤ length operands
    → Holding (state_at ρ names states) (tests_of tree names edges operands) lo n slots cols
holding {ρ} {tree} {names} {states} {ends} {many} {lo} {n} {tables} {cols} {edges} {operands} {slots} g p k =
    record { at = at }
  where
    at : (t i : ℕ) (d : Test) → t < length (tests_of tree names edges operands) → i < n
        → get_or cols (get_or slots t 0 * 1040 + i) 0
        ≡ test_at (state_at ρ names states) (lo + i) (get_or (tests_of tree names edges operands) t d)
    at t i d h l =
        let m : t < length edges = omega (arith, tests_length tree names edges operands k) in
        let e : lo + (i + 1) ≡ lo + i + 1 = omega arith in
        let c = g.codes (get_or slots t 0) i (p.slot t m) (omega arith) in
        let f = rw e at (g.codes (get_or slots t 0) (i + 1) (p.slot t m) (omega arith)) in
        (rw e at (g.at (get_or slots t 0) i (p.slot t m) l))
        ∙ p.is (state_at ρ names states) (lo + i) t m c f
        ∙ ap (test_at (state_at ρ names states) (lo + i)) (sym (test_at_lem tree names edges operands t d m k))

module _ {tree : List ℕ} {names : ℕ} {states steps counts ends slots : List ℕ} {many : ℕ} {tables : List ℕ}
    {from m : ℕ} {cols best tries : List ℕ}
    (asked : AnswerAsked tree names states steps counts ends slots many tables from m cols best tries) where
  pub columns_asked : ColumnsAsked tree names states ends many (from - 16) (m + 15) tables cols
  columns_asked =
      record {
        some = asked.block.ready.some;
        operands = asked.block.ready.operands;
        rows = λ i h. row_within (from - 16 + i) asked.block.rows (omega (arith, asked.block.start));
        few = omega (arith, asked.block.start, asked.block.rows.few);
        wide = omega (arith, asked.block.wide);
        most = asked.block.ready.most;
        tabled = asked.block.ready.tabled;
        room = asked.block.ready.room;
      }

  pub block_asked : {cols' acc : List ℕ} → length cols' ≡ length cols → length acc ≡ 1024
      → BlockAsked steps counts slots cols' m acc best tries
  block_asked e f =
      record {
        few = asked.block.ready.few;
        short = asked.block.ready.short;
        enough_steps = asked.block.ready.enough_steps;
        enough_tests = asked.block.ready.enough_tests;
        columns = λ j h. omega (arith, asked.block.ready.columns j h, asked.block.ready.room);
        wide = asked.block.wide;
        acc_room = omega (arith, asked.block.wide);
        best_room = asked.best_room;
        tries_room = asked.tries_room;
        best_blank = asked.best_blank;
        tries_blank = asked.tries_blank;
      }

  pub answered : (ρ : Rules) {cols' best' tries' : List ℕ}
      → Columns ρ tree names states ends many (from - 16) (m + 15) tables cols'
      → BlockMatched steps counts slots cols' m best' tries'
      → Answered ρ tree names states steps counts ends slots many tables from m best' tries'
  unfolding alternatives_of_lem
  answered ρ {cols'} {best'} {tries'} c b =
      record {
        small = b.small;
        few = b.few;
        best_is = λ edges operands p h k i l.
            rw (row i) at
            (b.best_is (state_at ρ names states) _ (from - 16) (m + 15) (holding c p k) (omega arith)
            (omega (arith, tests_length tree names edges operands k)) i l);
        tries_is = λ edges operands p h k i l.
            rw (row i) at
            (b.tries_is (state_at ρ names states) _ (from - 16) (m + 15) (holding c p k) (omega arith)
            (omega (arith, tests_length tree names edges operands k)) i l);
      }
    where
      row : (i : ℕ) → from - 16 + 16 + i ≡ from + i
      row i = omega (arith, asked.block.start)
