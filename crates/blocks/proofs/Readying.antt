-- Laws of blocks that are ready.
--   rows_fewer, ready_same     fewer rows; columns in another list of the same length
--   answer_asked               a block with lists of 1,024 zeros may be answered
use mathlib.Core.Path.{◌≡◌, refl}
use mathlib.Core.List.{List}
use Prim.Native.Nat.{ℕ, zero, suc, ◌≤◌}
use native.Mathlib.Nat.{mul-le-mul_right}
use native.Mathlib.Omega.{arith}
use lib.ListN.{length, get_or, replicate, length-replicate}
use Rattle.matcher.specs.Tables.{Rows}
use Rattle.blocks.specs.Rows.{Ready, Block, AnswerAsked}

-- fewer rows
pub rows_fewer : {states : List ℕ} {names n : ℕ} (m : ℕ) → m ≤ n → Rows states names n → Rows states names m
rows_fewer {states} {names} m h r =
    record {
      some = r.some;
      most = r.most;
      few = omega (arith, r.few);
      room = omega (arith, r.room, mul-le-mul_right names h);
      codes = r.codes;
    }

-- columns in another list of the same length
pub ready_same : {tree : List ℕ} {names : ℕ} {steps counts ends slots : List ℕ} {many : ℕ} {tables cols cols' : List ℕ}
    → length cols' ≡ length cols → Ready tree names steps counts ends slots many tables cols
    → Ready tree names steps counts ends slots many tables cols'
ready_same e r =
    record {
      few = r.few;
      short = r.short;
      enough_steps = r.enough_steps;
      enough_tests = r.enough_tests;
      columns = r.columns;
      operands = r.operands;
      some = r.some;
      most = r.most;
      tabled = r.tabled;
      room = omega (arith, r.room);
    }

zero_at : (n i : ℕ) → ◌≡◌ {A = ℕ} (get_or (replicate n 0) i 0) 0
zero_at zero i = refl
zero_at (suc n) zero = refl
zero_at (suc n) (suc i) = zero_at n i

pub answer_asked : {tree : List ℕ} {names : ℕ} {states steps counts ends slots : List ℕ} {many : ℕ} {tables : List ℕ}
    {from m : ℕ} {cols : List ℕ}
    → Block tree names states steps counts ends slots many tables from m cols
    → AnswerAsked tree names states steps counts ends slots many tables from m cols (replicate 1024 0)
    (replicate 1024 0)
answer_asked block =
    let e : length {A = ℕ} (replicate 1024 0) ≡ 1024 = length-replicate {A = ℕ} 1024 0 in
    record {
      block = block;
      best_room = omega (arith, block.wide);
      tries_room = omega (arith, block.wide);
      best_blank = record { at = zero_at 1024 };
      tries_blank = record { at = zero_at 1024 };
    }
