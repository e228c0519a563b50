-- The names A, B, C of document 01's cases are good: slots_count, slots_named.
use Prim.Native.Nat.{ℕ, zero, suc, ◌+◌, ◌<◌}
use native.Mathlib.Omega.{arith}
use mathlib.Core.Path.{◌≡◌, refl, sym, ap, ◌∙◌}
use mathlib.Core.Bool.{true}
use mathlib.Core.List.{List}
use lib.ListN.{get_or}
use Rattle.basics.specs.Text.{bytes}
use Rattle.basics.specs.Words.{all}
use Rattle.alf.specs.Names.{names_in, is_letter, is_decimal, starts_name, goes_on_name, is_name}
use Rattle.alf.specs.Names.{slot, until_zero, name_at, slot_of}
use Rattle.alf.specs.Names.{GoodSlot}
use Rattle.alf.specs.Refusals.{Passed}
use Rattle.alf.specs.TableT.{names, slots}
use Rattle.names.specs.Check.{Slots}
use Rattle.writer.specs.Writing.{Named}

-- The names A, B, C.
pub slots_count : names_in slots ≡ names
unfolding slots slot_of bytes
slots_count = refl

first_byte : (k : ℕ) → k < names → get_or (name_at slots k) 0 0 ≡ 65 + k
unfolding slots slot_of slot until_zero bytes
first_byte zero l = refl
first_byte (suc zero) l = refl
first_byte (suc (suc zero)) l = refl
first_byte (suc (suc (suc k))) l = absurd (omega arith)

slot_named : (k : ℕ) → k < names → is_name (name_at slots k) ≡ true
unfolding slots slot_of slot until_zero bytes is_name starts_name is_letter is_decimal goes_on_name all
slot_named zero l = refl
slot_named (suc zero) l = refl
slot_named (suc (suc zero)) l = refl
slot_named (suc (suc (suc k))) l = absurd (omega arith)

slot_filled : (k : ℕ) → k < names → slot slots k ≡ slot_of (name_at slots k)
unfolding slots slot_of slot until_zero bytes
slot_filled zero l = refl
slot_filled (suc zero) l = refl
slot_filled (suc (suc zero)) l = refl
slot_filled (suc (suc (suc k))) l = absurd (omega arith)

slot_good : (k : ℕ) → k < names → GoodSlot slots k
slot_good k l =
    record {
      named = slot_named k l;
      filled = slot_filled k l;
      new = λ j h e.
          let a = sym (first_byte j (omega arith)) ∙ (ap (λ (x : List ℕ). get_or x 0 0) e ∙ first_byte k l) in
          omega (arith, a, h);
    }

slots_fit : Slots slots
unfolding slots slot_of bytes
slots_fit = record { whole = refl; some = omega arith; few = omega arith }

pub slots_named : Named slots
unfolding Passed
slots_named =
    record {
      passed = (
        λ p a. a.given slots_fit,
        (λ p a. a.given.1 (slot_good p (omega (arith, a.given.0, slots_count))), tt),
      );
    }
