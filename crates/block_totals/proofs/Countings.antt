-- Laws of counting answers block by block.
--   block_counted_lem                               the rows of a block
--   Counting, counting_first, -asked, -next, -end     the rows before `from`
use mathlib.Core.Path.{◌≡◌, refl, sym, ap, ◌∙◌}
use mathlib.Core.List.{List}
use Prim.Native.Nat.{ℕ, zero, suc, ◌+◌, ◌-◌, ◌<◌, ◌≤◌, min}
use native.Mathlib.Omega.{arith}
use lib.Dec.{eqb}
use lib.ListN.{length, get_or}
use Rattle.basics.specs.Words.{count}
use Rattle.basics.proofs.Counts.{count_small, count_same}
use Rattle.columns.proofs.Tallies.{count_add}
use Rattle.alf.specs.declared.Rules.{Rules}
use Rattle.alf.specs.Values.{state_at}
use Rattle.alf.specs.Windows.{numbered}
use Rattle.alf.specs.Alternatives.{answer_of}
use Rattle.alternatives.specs.InMemory.{alternatives_of_lem}
use Rattle.matcher.specs.Tables.{RowsAsked, total_of, TotalsOf}
use Rattle.blocks.specs.Rows.{Answered, Block, BlocksAsked}
use Rattle.blocks.proofs.Readying.{rows_fewer, ready_same}
use Rattle.block_totals.specs.Counting.{Counts, BlockCounted}

-- the number of an answer, by its rank
number_yes : (b : ℕ) → b ≤ 2 → eqb b 2 ≡ eqb (numbered b) 1
unfolding numbered
number_yes zero h = refl
number_yes (suc zero) h = refl
number_yes (suc (suc zero)) h = refl
number_yes (suc (suc (suc b))) h = absurd (omega arith)

number_no : (b : ℕ) → b ≤ 2 → eqb b 0 ≡ eqb (numbered b) 0
unfolding numbered
number_no zero h = refl
number_no (suc zero) h = refl
number_no (suc (suc zero)) h = refl
number_no (suc (suc (suc b))) h = absurd (omega arith)

number_unknown : (b : ℕ) → b ≤ 2 → eqb b 1 ≡ eqb (numbered b) 2
unfolding numbered
number_unknown zero h = refl
number_unknown (suc zero) h = refl
number_unknown (suc (suc zero)) h = refl
number_unknown (suc (suc (suc b))) h = absurd (omega arith)

module _ {tree : List ℕ} {names : ℕ} {states steps counts ends slots : List ℕ} {many : ℕ} {tables : List ℕ}
    {from m : ℕ} {cols : List ℕ}
    (asked : Block tree names states steps counts ends slots many tables from m cols) where
  pub block_counted_lem : (ρ : Rules) {best tries : List ℕ} {yes' no' unknown : ℕ}
      → Answered ρ tree names states steps counts ends slots many tables from m best tries
      → yes' ≡ count m (λ i. eqb (get_or best i 0) 2) → no' ≡ count m (λ i. eqb (get_or best i 0) 0)
      → unknown ≡ count m (λ i. eqb (get_or best i 0) 1)
      → BlockCounted ρ tree names states steps counts ends slots many tables from m yes' no' unknown
  unfolding answer_of
  block_counted_lem ρ {best} a p q r =
      record {
        counted = λ edges operands g h k.
            let is : (i : ℕ) → i < m
            → numbered (get_or best i 0)
            ≡ answer_of (state_at ρ names states) (alternatives_of_lem tree names steps counts edges operands) (from + i)
            = λ i l. rw (row_some i) (ap numbered (rw (row_some i) at (a.best_is edges operands g h k i l))) in
            record {
              yeses = p ∙ count_same m _ _ (λ i l. number_yes _ (a.small i l) ∙ ap (λ (x : ℕ). eqb x 1) (is i l));
              noes = q ∙ count_same m _ _ (λ i l. number_no _ (a.small i l) ∙ ap (λ (x : ℕ). eqb x 0) (is i l));
              unknowns =
                  r ∙ count_same m _ _ (λ i l. number_unknown _ (a.small i l) ∙ ap (λ (x : ℕ). eqb x 2) (is i l));
            };
      }
    where
      row_some : (i : ℕ) → from + i ≡ suc (from + i - 1)
      row_some i = omega (arith, asked.start)

-- how many of the rows before `from` have each answer of the rule f
pub record Counting (f : ℕ → ℕ) (n : ℕ) (cols₁ cols : List ℕ) (yes' no' unknown from : ℕ) : Type 0 where
  pub start : 16 ≤ from
  pub within : from ≤ n
  pub long : length cols ≡ length cols₁
  pub yeses : yes' ≡ count from (λ i. eqb (f i) 1)
  pub noes : no' ≡ count from (λ i. eqb (f i) 0)
  pub unknowns : unknown ≡ count from (λ i. eqb (f i) 2)

module _ {f : ℕ → ℕ} {n : ℕ} {cols₁ cols : List ℕ} {yes' no' unknown from : ℕ}
    (g : Counting f n cols₁ cols yes' no' unknown from) where
  -- the sums fit a word
  pub sums_small : {m y z u : ℕ} → Counts f from m y z u
      → (yes' + y ≤ from + m) × (no' + z ≤ from + m) × (unknown + u ≤ from + m)
  sums_small {m} c = (
    omega (arith, g.yeses, c.yeses, count_small from (λ i. eqb (f i) 1), count_small m (λ i. eqb (f (from + i)) 1)),
    omega (arith, g.noes, c.noes, count_small from (λ i. eqb (f i) 0), count_small m (λ i. eqb (f (from + i)) 0)),
    omega (
      arith,
      g.unknowns,
      c.unknowns,
      count_small from (λ i. eqb (f i) 2),
      count_small m (λ i. eqb (f (from + i)) 2),
    ),
  )

  pub counting_next : {m y z u : ℕ} {cols' : List ℕ} → from < n → m ≡ min (n - from) 1024 → length cols' ≡ length cols
      → Counts f from m y z u → Counting f n cols₁ cols' (yes' + y) (no' + z) (unknown + u) (from + m)
  counting_next {m} l e k c =
      record {
        start = omega (arith, g.start);
        within = omega arith;
        long = k ∙ g.long;
        yeses = rw (g.yeses, c.yeses) (sym (count_add from m (λ i. eqb (f i) 1)));
        noes = rw (g.noes, c.noes) (sym (count_add from m (λ i. eqb (f i) 0)));
        unknowns = rw (g.unknowns, c.unknowns) (sym (count_add from m (λ i. eqb (f i) 2)));
      }

pub head_counted : {tree : List ℕ} {names : ℕ} {states steps counts edges operands : List ℕ} {n : ℕ} → 16 ≤ n
    → RowsAsked tree names states steps counts edges operands n
    → RowsAsked tree names states steps counts edges operands 16
head_counted h rows = record { shape = rows.shape; rows = rows_fewer 16 h rows.rows }

module _ (ρ : Rules) {tree : List ℕ} {names : ℕ} {states steps counts edges operands : List ℕ} {n : ℕ}
    {ends slots : List ℕ} {many : ℕ} {tables cols₀ : List ℕ}
    (rows : RowsAsked tree names states steps counts edges operands n)
    (asked : BlocksAsked tree names steps counts edges operands n ends slots many tables cols₀) where
  abbrev pub answers : ℕ → ℕ
  answers = answer_of (state_at ρ names states) (alternatives_of_lem tree names steps counts edges operands)

  pub counting_first : {y z u : ℕ}
      → TotalsOf (state_at ρ names states) (alternatives_of_lem tree names steps counts edges operands) 16 y z u
      → Counting answers n cols₀ cols₀ y z u 16
  unfolding total_of
  counting_first t =
      record {
        start = omega arith;
        within = asked.start;
        long = refl;
        yeses = t.yeses;
        noes = t.noes;
        unknowns = t.unknowns;
      }

  pub counts_of : {from m y z u : ℕ}
      → BlockCounted ρ tree names states steps counts ends slots many tables from m y z u
      → Counts answers from m y z u
  counts_of b =
      b.counted edges operands asked.prepared rows.shape.enough_tests rows.shape.known.enough

  module _ {cols : List ℕ} {y z u from : ℕ} (g : Counting answers n cols₀ cols y z u from) where
    pub count_asked : {m : ℕ} → from < n → m ≡ min (n - from) 1024
        → Block tree names states steps counts ends slots many tables from m cols
    count_asked {m} l e =
        record {
          ready = ready_same g.long asked.ready;
          rows = rows_fewer (from + m) (omega arith) rows.rows;
          start = g.start;
          wide = omega arith;
        }

    pub counting_end : n ≤ from
        → TotalsOf (state_at ρ names states) (alternatives_of_lem tree names steps counts edges operands) n y z u
    unfolding total_of
    counting_end h =
        let e : from ≡ n = omega (arith, g.within) in
        record { yeses = rw e at g.yeses; noes = rw e at g.noes; unknowns = rw e at g.unknowns }
