-- Laws of the classes of bytes.
--   blank_class         a class tells whether its bytes are blanks
--   name_byte_class     and whether they go on a name
--   not_blank, not_name_byte   the classes that are not, or do not
use mathlib.Core.Path.{◌≡◌, refl, sym, ap, ◌∙◌}
use mathlib.Core.Bool.{Bool, true, false}
use Prim.Native.Nat.{ℕ, ◌<◌}
use native.Mathlib.Omega.{arith}
use lib.Dec.{eqb}
use Rattle.alf.specs.Names.{is_letter, is_decimal, starts_name, goes_on_name}
use Rattle.alf.specs.States.{among}
use Rattle.token_steps.specs.declared.Class.{Class}
use Rattle.token_steps.specs.declared.Class.TheVariants.{Letter, Quote, Digit, Blank, Operator, Other}
use Rattle.token_steps.specs.Classes.{is_blank_lem, is_operator, class_of}
use Rattle.basics.proofs.Ranges.{all_from_law}

-- what a class tells
abbrev pub blank : Class → Bool
blank Letter = false
blank Quote = false
blank Digit = false
blank Blank = true
blank Operator = false
blank Other = false

abbrev pub name_byte : Class → Bool
name_byte Letter = true
name_byte Quote = false
name_byte Digit = true
name_byte Blank = false
name_byte Operator = false
name_byte Other = false

abbrev bit : Bool → ℕ
bit true = 1
bit false = 0

bit_law : (x y : Bool) → eqb (bit x) (bit y) ≡ true → x ≡ y
bit_law true true e = refl
bit_law true false e = sym e
bit_law false true e = e
bit_law false false e = refl

abbrev agrees : (Class → Bool) → (ℕ → Bool) → ℕ → Bool
agrees f g b = eqb (bit (f (class_of b))) (bit (g b))

pub blank_class : {x : Class} {b : ℕ} → x ≡ class_of b → b < 256 → blank x ≡ is_blank_lem b
unfolding class_of starts_name is_letter is_decimal is_blank_lem is_operator among
blank_class {x} {b} e h =
    ap blank e ∙ bit_law _ _ (all_from_law (agrees blank is_blank_lem) 0 256 b refl (omega arith) (omega arith))

pub name_byte_class : {x : Class} {b : ℕ} → x ≡ class_of b → b < 256 → name_byte x ≡ goes_on_name b
unfolding class_of starts_name is_letter is_decimal is_blank_lem is_operator among goes_on_name
name_byte_class {x} {b} e h =
    ap name_byte e ∙ bit_law _ _ (all_from_law (agrees name_byte goes_on_name) 0 256 b refl (omega arith) (omega arith))

pub not_blank : {x : Class} → (x ≡ Blank → ⊥) → false ≡ blank x
not_blank {x = Letter} h = refl
not_blank {x = Quote} h = refl
not_blank {x = Digit} h = refl
not_blank {x = Blank} h = absurd (h refl)
not_blank {x = Operator} h = refl
not_blank {x = Other} h = refl

pub not_name_byte : {x : Class} → (x ≡ Letter → ⊥) → (x ≡ Digit → ⊥) → false ≡ name_byte x
not_name_byte {x = Letter} h k = absurd (h refl)
not_name_byte {x = Quote} h k = refl
not_name_byte {x = Digit} h k = absurd (k refl)
not_name_byte {x = Blank} h k = refl
not_name_byte {x = Operator} h k = refl
not_name_byte {x = Other} h k = refl
