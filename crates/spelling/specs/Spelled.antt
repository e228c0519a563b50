-- Document 01, "Writing out": one blank between all tokens, `&`, `|`, `!` for the doubled and `~` spellings, capital
-- letters, digits as `0` and `1`, unbased edges unless a letter state occurs; then both halves are based.
--   half_byte, literal_spelled, pair_spelled   a half of an edge, a literal, an edge of two halves
--   operators, marks, prefixes              the other tokens that are no names
--   sign_spelled, spelled                    a token that is no name, and any token
--   following, text_of_lem                       the text of some tokens behind a token, and by themselves
use Rattle.std.specs.Prelude.{ℕ, ◌-◌, ◌/◌, ◌%◌, ◌&&◌, List, [], ◌∷◌, ◌++◌, eqb, ltb, get_or, if◌then◌else◌}
use Rattle.alf.specs.Names.{name_at}
use Rattle.token_steps.specs.Spelling.{based}
use Rattle.grammar.specs.declared.Token.{Token}

-- `? 0 1 X H L W Z U`, in the order of an edge's halves
unfoldable pub half_byte : ℕ → ℕ
half_byte h = get_or (63 ∷ 48 ∷ 49 ∷ 88 ∷ 72 ∷ 76 ∷ 87 ∷ 90 ∷ 85 ∷ []) h 63

-- digits as `0` and `1`; a letter is based
unfoldable pub literal_spelled : ℕ → List ℕ
literal_spelled h = if ltb h 3 then half_byte h ∷ [] else based (half_byte h)

-- an edge of two halves: unbased unless a letter state occurs; then both are based
unfoldable pub pair_spelled : ℕ → ℕ → List ℕ
pair_spelled f t =
    if ltb f 3 && ltb t 3 then half_byte f ∷ half_byte t ∷ [] else based (half_byte f) ++ based (half_byte t)

-- from code 40: & | ^ ~^ == != > < >= <= -> <-> &> <&>
unfoldable pub operators : List (List ℕ)
operators =
    (38 ∷ []) ∷ (124 ∷ []) ∷ (94 ∷ []) ∷ (126 ∷ 94 ∷ []) ∷ (61 ∷ 61 ∷ []) ∷
    (33 ∷ 61 ∷ []) ∷
    (62 ∷ []) ∷ (60 ∷ []) ∷ (62 ∷ 61 ∷ []) ∷ (60 ∷ 61 ∷ []) ∷
    (45 ∷ 62 ∷ []) ∷ (60 ∷ 45 ∷ 62 ∷ []) ∷ (38 ∷ 62 ∷ []) ∷ (60 ∷ 38 ∷ 62 ∷ []) ∷ []

-- from code 60: ? : ( )
unfoldable pub marks : List (List ℕ)
marks = (63 ∷ []) ∷ (58 ∷ []) ∷ (40 ∷ []) ∷ (41 ∷ []) ∷ []

-- from code 145: ?! ?- !
unfoldable pub prefixes : List (List ℕ)
prefixes = (63 ∷ 33 ∷ []) ∷ (63 ∷ 45 ∷ []) ∷ (33 ∷ []) ∷ []

-- every token that is no name, by its code
unfoldable pub sign_spelled : ℕ → List ℕ
sign_spelled c =
    if ltb c 40 then literal_spelled (c - 31)
    else if ltb c 60 then get_or operators (c - 40) []
    else if ltb c 64 then get_or marks (c - 60) []
    else if ltb c 145 then pair_spelled ((c - 64) / 9) ((c - 64) % 9)
    else get_or prefixes (c - 145) []

unfoldable pub spelled : List ℕ → Token → List ℕ
spelled names t = if eqb t.code 0 then name_at names t.place else sign_spelled t.code

-- one blank between all tokens
unfoldable pub following : List ℕ → List Token → List ℕ
following names [] = []
following names (t ∷ ts) = 32 ∷ (spelled names t ++ following names ts)

unfoldable pub text_of_lem : List ℕ → List Token → List ℕ
text_of_lem names [] = []
text_of_lem names (t ∷ ts) = spelled names t ++ following names ts
