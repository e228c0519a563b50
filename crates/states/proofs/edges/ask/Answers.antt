-- `edges::ask` meets its contract: `?`, a literal, or none, by the number of the half.
use borrow.Author.Tests.{ne_eqb, le-ltb}
use native.Mathlib.Omega.{arith}
use mathlib.Core.Path.{◌≡◌, refl}
use Prim.Native.Nat.{ℕ, ◌-◌, ◌<◌, ◌≤◌}
use Rattle.alf.specs.Windows.{asked, letter_asked}
use Rattle.alf.specs.Decoder.{half_at}
use Rattle.alf.proofs.EdgeNumbers.{half_any, half_the}
use Rattle.states.proofs.edges.ask.Goals as goal

-- a number that is no half's
beyond : (h s : ℕ) → (h ≡ 0 → ⊥) → 8 ≤ h - 1 → s < 8 → 0 ≡ asked (half_at h) s
unfolding asked letter_asked
beyond h s n l k = rw (half_the h n, le-ltb (h - 1) 2 (omega arith), ne_eqb s (h - 1) (λ e. omega arith)) refl

pub returns-then-h-eq0 : goal.returns-then-h-eq0
unfolding asked
returns-then-h-eq0 c = rw (half_any _ c.if-h-eq0.true) refl

pub returns-then-l-lt8 : goal.returns-then-l-lt8
returns-then-l-lt8 c = rw (half_the _ c.if-h-eq0.false) c.ask_literal.ensures

pub returns : goal.returns
returns c = beyond _ _ c.if-h-eq0.false c.if-l-lt8.false c.requires
