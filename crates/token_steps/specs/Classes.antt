-- Document 01, "Text": the class of each byte. Bytes 128 to 255 belong to no class.
--   is_blank_lem, is_operator     two of the classes as tests
--   class_of                 the class of a byte
--   half_of                  the half of an edge that a byte stands for
--   half_found, plain_found   the same, of all nine and of `0 1 ?`, where the byte stands for one
use Rattle.std.specs.Prelude.{ℕ, Bool, Option, None, Some, [], ◌∷◌, eqb, ltb, if◌then◌else◌}
use Rattle.alf.specs.Names.{starts_name, is_decimal}
use Rattle.alf.specs.States.{among}
use Rattle.token_steps.specs.declared.Class.{Class}
use Rattle.token_steps.specs.declared.Class.TheVariants.{Letter, Quote, Digit, Blank, Operator, Other}

-- Blanks are space, tab, LF, CR.
unfoldable pub is_blank_lem : ℕ → Bool
is_blank_lem b = among b (32 ∷ 9 ∷ 10 ∷ 13 ∷ [])

-- ! & ( ) - : < = > ? ^ | ~
unfoldable pub is_operator : ℕ → Bool
is_operator b = among b (33 ∷ 38 ∷ 40 ∷ 41 ∷ 45 ∷ 58 ∷ 60 ∷ 61 ∷ 62 ∷ 63 ∷ 94 ∷ 124 ∷ 126 ∷ [])

unfoldable pub class_of : ℕ → Class
class_of b =
    if starts_name b then Letter
    else if eqb b 39 then Quote
    else if is_decimal b then Digit
    else if is_blank_lem b then Blank
    else if is_operator b then Operator
    else Other

-- The half of an edge that a byte stands for: which of `? 0 1 X H L W Z U`, counted from 0, in either case;
-- 9 where it is none of them. Less one it is a state's code.
unfoldable pub half_of : ℕ → ℕ
half_of b =
    if eqb b 63 then 0
    else if eqb b 48 then 1
    else if eqb b 49 then 2
    else if among b (88 ∷ 120 ∷ []) then 3
    else if among b (72 ∷ 104 ∷ []) then 4
    else if among b (76 ∷ 108 ∷ []) then 5
    else if among b (87 ∷ 119 ∷ []) then 6
    else if among b (90 ∷ 122 ∷ []) then 7
    else if among b (85 ∷ 117 ∷ []) then 8
    else 9

-- that half, where the byte stands for one
unfoldable pub half_found : ℕ → Option ℕ
half_found b = if ltb (half_of b) 9 then Some (half_of b) else None

-- that half, where the byte is one of `0 1 ?`
unfoldable pub plain_found : ℕ → Option ℕ
plain_found b = if ltb (half_of b) 3 then Some (half_of b) else None
