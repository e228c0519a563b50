-- All rows, one after the other: what is known when those before i are matched.
--   row_within, row_asked                  row i of n rows is there, and may be asked
--   Filling, filling_first, -next, -end    the lists of answers and numbers tried
--   Counting, counting_first, -next, -end  the totals
--   number_of_bool                         `u32::from` of a bool
use Rattle.std.specs.Prelude.{if◌then◌else◌}
use mathlib.Core.Path.{◌≡◌, refl, ◌∙◌}
use mathlib.Core.Bool.{Bool, true, false}
use mathlib.Core.List.{List}
use Prim.Native.Nat.{ℕ, ◌+◌, ◌<◌, ◌≤◌}
use native.Mathlib.Nat.{suc-mul, mul-le-mul_right}
use native.Mathlib.Omega.{arith}
use mir.Val.{bool_byte}
use lib.Dec.{eqb}
use lib.ListN.{length, set}
use Rattle.alf.specs.declared.Answer.{Answer}
use Rattle.basics.specs.Words.{count, listed}
use Rattle.alf.specs.Expressions.{Boolean}
use Rattle.alf.specs.Answers.{number_of}
use Rattle.alf.specs.Alternatives.{Alternative, answer_of}
use Rattle.alf.specs.Alternatives as alternatives
use Rattle.basics.proofs.Counts.{count_next, count_small}
use Rattle.evaluator.specs.Rows.{Within}
use Rattle.matcher.specs.Answers.{RowAsked, Matches}
use Rattle.matcher.specs.Tables.{Rows, RowsAsked, Filled, total_of, TotalsOf}
use Rattle.basics.proofs.Stores.{Writing, writing_first, writing_length}
use Rattle.basics.proofs.Listed.{ruling_next_front, ruling_front}

pub row_within : {states : List ℕ} {names n : ℕ} (i : ℕ) → Rows states names n → i < n
    → Within states names i
row_within {states} {names} {n} i r h =
    let e = mul-le-mul_right names h in
    let f = suc-mul i names in
    record {
      some = r.some;
      most = r.most;
      few = omega (arith, r.few);
      room = omega (arith, r.room);
      codes = r.codes;
    }

pub row_asked : {tree : List ℕ} {names : ℕ} {states steps tests edges operands : List ℕ} {n : ℕ} (i : ℕ)
    → RowsAsked tree names states steps tests edges operands n → i < n
    → RowAsked tree names states steps tests edges operands i
row_asked i a h = record { shape = a.shape; rows = row_within i a.rows h }

module _ (st : Boolean → ℕ → ℕ) (xs : List Alternative) where
  pub record Filling (n : ℕ) (answers₀ tried₀ answers tried : List ℕ) (i : ℕ) : Type 0 where
    pub answered : Writing answers₀ 0 (listed 0 n (answer_of st xs)) answers i
    pub counted : Writing tried₀ 0 (listed 0 n (alternatives.tries st xs)) tried i

module _ {st : Boolean → ℕ → ℕ} {xs : List Alternative} {n : ℕ} {answers₀ tried₀ : List ℕ} where
  pub filling_first : Filling st xs n answers₀ tried₀ answers₀ tried₀ 0
  filling_first = record { answered = writing_first; counted = writing_first }

  module _ {answers tried : List ℕ} {i : ℕ} (g : Filling st xs n answers₀ tried₀ answers tried i) where
    pub answers_length : length answers ≡ length answers₀
    answers_length = writing_length g.answered

    pub tried_length : length tried ≡ length tried₀
    tried_length = writing_length g.counted

    pub filling_next : {a : Answer} {v k : ℕ} → i < n → Matches st xs i a k → v ≡ number_of a
        → Filling st xs n answers₀ tried₀ (set answers i v) (set tried i k) (i + 1)
    filling_next l m e =
        record {
          answered = ruling_next_front _ g.answered l (e ∙ m.is);
          counted = ruling_next_front _ g.counted l m.count;
        }

    pub filling_end : n ≤ i → n ≤ length answers₀ → n ≤ length tried₀
        → Filled st xs n answers₀ tried₀ answers tried
    filling_end h r s =
        record { answered = ruling_front _ g.answered h r; counted = ruling_front _ g.counted h s }

-- the totals of the rows before i
pub record Counting (st : Boolean → ℕ → ℕ) (xs : List Alternative) (n yes no unknown i : ℕ) : Type 0 where
  pub within : i ≤ n
  pub yeses : yes ≡ total_of st xs i 1
  pub noes : no ≡ total_of st xs i 0
  pub unknowns : unknown ≡ total_of st xs i 2

module _ (st : Boolean → ℕ → ℕ) (xs : List Alternative) (i a : ℕ) where
  total_next : total_of st xs (i + 1) a ≡ total_of st xs i a + (if eqb (answer_of st xs i) a then 1 else 0)
  unfolding total_of
  total_next = count_next i _

  pub total_small : total_of st xs i a ≤ i
  unfolding total_of
  total_small = count_small i _

module _ {st : Boolean → ℕ → ℕ} {xs : List Alternative} {n : ℕ} where
  pub counting_first : Counting st xs n 0 0 0 0
  unfolding total_of count
  counting_first = record { within = omega arith; yeses = refl; noes = refl; unknowns = refl }

  module _ {y₀ f₀ u₀ i : ℕ} (g : Counting st xs n y₀ f₀ u₀ i) where
    pub counted_small : (y₀ ≤ i) × (f₀ ≤ i) × (u₀ ≤ i)
    counted_small = (
      omega (arith, g.yeses, total_small st xs i 1),
      omega (arith, g.noes, total_small st xs i 0),
      omega (arith, g.unknowns, total_small st xs i 2),
    )

    pub counting_next : {y f u : ℕ} (v : ℕ) → i < n → v ≡ answer_of st xs i
        → y ≡ (if eqb v 1 then 1 else 0)
        → f ≡ (if eqb v 0 then 1 else 0) → u ≡ (if eqb v 2 then 1 else 0)
        → Counting st xs n (y₀ + y) (f₀ + f) (u₀ + u) (i + 1)
    counting_next v l e a b c =
        record {
          within = omega arith;
          yeses = omega (arith, g.yeses, total_next st xs i 1, rw e at a);
          noes = omega (arith, g.noes, total_next st xs i 0, rw e at b);
          unknowns = omega (arith, g.unknowns, total_next st xs i 2, rw e at c);
        }

    pub counting_end : n ≤ i → TotalsOf st xs n y₀ f₀ u₀
    counting_end h =
        let e : i ≡ n = omega (arith, g.within) in
        record { yeses = rw e at g.yeses; noes = rw e at g.noes; unknowns = rw e at g.unknowns }

pub number_of_bool : (b : Bool) → bool_byte b ≡ (if b then 1 else 0)
number_of_bool true = refl
number_of_bool false = refl
