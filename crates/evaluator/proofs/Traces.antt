-- What calls over a whole trace have once its lists are found good: its rows are where the functions over a tree look.
--   earlier_row       a trace that has a row has those before it
--   trace_row         a row below n stands in the states
--   trace_filling     all n rows do, and a list of n entries has room for a value of each
--   is_state_unique   two results that a contract allows coincide
use Prim.Native.Nat.{ℕ, suc, ◌*◌, ◌<◌, ◌≤◌}
use native.Mathlib.Omega.{arith}
use native.Mathlib.Nat.{mul-le-mul_right, suc-mul}
use mathlib.Core.Path.{◌≡◌, sym, ◌∙◌}
use mathlib.Core.List.{List}
use lib.ListN.{length, get_or}
use Rattle.alf.specs.Refusals.{NameCount, RowCount}
use Rattle.evaluator.specs.Rows.{Within, Filling, IsState}

pub earlier_row : {states : List ℕ} {names b : ℕ} (a : ℕ) → a ≤ b → Within states names b
    → Within states names a
earlier_row {states} {names} {b} a h w =
    let m = mul-le-mul_right names h in
    record {
      some = w.some;
      most = w.most;
      few = omega (arith, w.few);
      room = omega (arith, w.room);
      codes = w.codes;
    }

module _ (states : List ℕ) (names n : ℕ) (named : NameCount names) (few : RowCount n)
    (whole : length states ≡ n * names) (codes : (i : ℕ) → i < length states → get_or states i 0 < 8) where
  pub trace_row : (row : ℕ) → row < n → Within states names row
  trace_row row h =
      let l : suc row ≤ n = omega arith in
      let m = mul-le-mul_right names l in
      let e = suc-mul row names in
      record {
        some = named.0;
        most = named.1;
        few = omega (arith, few.1);
        room = omega (arith, m, e, whole);
        codes = codes;
      }

  pub trace_filling : (out : List ℕ) → length out ≡ n → Filling states names n out
  trace_filling out e = record { rows = trace_row; room = omega arith }

pub is_state_unique : {s q r : ℕ} → IsState s q → IsState s r → q ≡ r
is_state_unique g h = g.is ∙ sym h.is
