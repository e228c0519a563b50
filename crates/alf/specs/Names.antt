-- Document 01, "Text": what is a name, and a list of names as slots of 32 bytes, zero-filled behind the name.
--   between, is_letter, is_decimal, starts_name, goes_on_name, is_name     bytes of names, and names
--   names_in                              how many names a list has
--   slot, until_zero, name_at, slot_of      a slot of a list, the name in it, a name as a slot
--   GoodSlot                             a slot that passes refusal 12
use Rattle.std.specs.Prelude.{ℕ, ◌*◌, ◌/◌, ◌<◌, Bool, true, false, ◌&&◌, ◌||◌, ◌≡◌, List, [], ◌∷◌, ◌++◌, eqb, ltb, leb, length, take, drop, replicate, if◌then◌else◌}
use Rattle.basics.specs.Words.{all}

-- Letters, digits, `_`. Each byte is put in its class by ranges; bytes 128 to 255 belong to no class.
abbrev pub between : ℕ → ℕ → ℕ → Bool
between lo hi b = leb lo b && leb b hi

unfoldable pub is_letter : ℕ → Bool
is_letter b = between 65 90 b || between 97 122 b

unfoldable pub is_decimal : ℕ → Bool
is_decimal b = between 48 57 b

unfoldable pub starts_name : ℕ → Bool
starts_name b = is_letter b || eqb b 95

unfoldable pub goes_on_name : ℕ → Bool
goes_on_name b = starts_name b || is_decimal b

-- Names: a letter or `_`, then letters, digits, `_`, at most 32 bytes
unfoldable pub is_name : List ℕ → Bool
is_name [] = false
is_name (b ∷ bs) = starts_name b && (all goes_on_name bs && ltb (length bs) 32)

-- how many names a list has
abbrev pub names_in : List ℕ → ℕ
names_in names = length names / 32

-- slot k of a list of names, and the name in a slot: the bytes before its first zero
unfoldable pub slot : List ℕ → ℕ → List ℕ
slot names k = take 32 (drop (k * 32) names)

unfoldable pub until_zero : List ℕ → List ℕ
until_zero [] = []
until_zero (b ∷ bs) = if eqb b 0 then [] else b ∷ until_zero bs

abbrev pub name_at : List ℕ → ℕ → List ℕ
name_at names k = until_zero (slot names k)

-- a name as a slot: its bytes, then zeros
unfoldable pub slot_of : List ℕ → List ℕ
slot_of name = take 32 (name ++ replicate 32 0)

-- slot k holds a name, zeros behind it, and no earlier slot's name
pub record GoodSlot (names : List ℕ) (k : ℕ) : Type 0 where
  pub named : is_name (name_at names k) ≡ true
  pub filled : slot names k ≡ slot_of (name_at names k)
  pub new : (j : ℕ) → j < k → name_at names j ≡ name_at names k → ⊥
