-- A test that decides something, and what follows from its answer.
--   told, tells      what a test says yes to is so; what is so it says yes to
--   same_decided     the test of something that is the same
--   decided_true     a test decides whether it says yes
--   both_decided     two tests
--   eqb_decides      two numbers
--   said, not_said   the test of an `if` that is turned round
--   decided_no, decided_yes      what it then says no to is not so, and what it says yes to is
--   holds, fails     the test that says yes, and the one that says no
--   not_told         what a test says no to is not so
--   decided_by       a test that says yes exactly where something is so decides it
use mathlib.Core.Path.{◌≡◌, refl, sym}
use mathlib.Core.Bool.{Bool, true, false, not, ◌&&◌}
use Prim.Native.Nat.{ℕ}
use lib.Dec.{eqb}
use borrow.Author.Tests.{eqb-true, eqb-false}
use Rattle.basics.proofs.Bools.{never}
use Rattle.basics.specs.Deciding.{Decides}

module _ {P : Type 0} where
  pub told : (b : Bool) → Decides b P → b ≡ true → P
  unfolding Decides
  told true d h = d
  told false d h = never h

  pub tells : (b : Bool) → Decides b P → P → b ≡ true
  unfolding Decides
  tells true d p = refl
  tells false d p = absurd (d p)

pub same_decided : (P Q : Type 0) (b : Bool) → (P → Q) → (Q → P) → Decides b P → Decides b Q
unfolding Decides
same_decided P Q true f g d = f d
same_decided P Q false f g d = λ q. d (g q)

pub decided_true : (b : Bool) → Decides b (b ≡ true)
unfolding Decides
decided_true true = refl
decided_true false = λ e. never e

eqb_cases : (m n : ℕ) (q : Bool) → eqb m n ≡ q → Decides q (m ≡ n)
unfolding Decides
eqb_cases m n true e = eqb-true m n e
eqb_cases m n false e = eqb-false m n e

pub eqb_decides : (m n : ℕ) → Decides (eqb m n) (m ≡ n)
eqb_decides m n = eqb_cases m n (eqb m n) refl

pub both_decided : (P Q : Type 0) (a b : Bool) → Decides a P → Decides b Q → Decides (a && b) (P × Q)
unfolding Decides
both_decided P Q true true d e = (d, e)
both_decided P Q true false d e = λ h. e h.1
both_decided P Q false b d e = λ h. d h.0

-- the test of an `if`, not turned round and turned round
pub said : (b : Bool) → not b ≡ false → b ≡ true
said true h = refl
said false h = never (sym h)

pub not_said : (b : Bool) → not b ≡ true → b ≡ true → ⊥
not_said true h e = never h
not_said false h e = never e

pub decided_no : {P : Type 0} (b : Bool) → Decides b P → not b ≡ true → P → ⊥
decided_no b d h p = not_said b h (tells b d p)

pub decided_yes : {P : Type 0} (b : Bool) → Decides b P → not b ≡ false → P
decided_yes b d h = told b d (said b h)

module _ {P : Type 0} where
  pub holds : P → Decides true P
  unfolding Decides
  holds p = p

  pub fails : (P → ⊥) → Decides false P
  unfolding Decides
  fails n = n

  pub not_told : (b : Bool) → Decides b P → b ≡ false → P → ⊥
  unfolding Decides
  not_told true d h = never (sym h)
  not_told false d h = d

  pub decided_by : (b : Bool) → (b ≡ true → P) → (P → b ≡ true) → Decides b P
  unfolding Decides
  decided_by true y n = y refl
  decided_by false y n = λ p. never (n p)
