-- For the functions inside: a token that is to be written, as one byte. A name is its number, any other token its code.
--   sign             a token's byte
--   word, mark_at_lem     a sign's spelling, and where the code's table has it
--   gap, line_from    the blank before a word, and the words of some signs
-- That the line of some tokens' signs is their text is a law.
use Rattle.std.specs.Prelude.{ℕ, suc, ◌-◌, List, [], ◌∷◌, ◌++◌, eqb, ltb, if◌then◌else◌}
use Rattle.alf.specs.Names.{name_at}
use Rattle.grammar.specs.declared.Token.{Token}
use Rattle.spelling.specs.Spelled.{sign_spelled}

unfoldable pub sign : Token → ℕ
sign t = if eqb t.code 0 then t.place else t.code

unfoldable pub word : List ℕ → ℕ → List ℕ
word names s = if ltb s 32 then name_at names s else sign_spelled s

-- the blank before all words but the first
abbrev pub gap : ℕ → List ℕ
gap i = if eqb i 0 then [] else 32 ∷ []

-- the words of some signs, the first of which has number i
unfoldable pub line_from : List ℕ → ℕ → List ℕ → List ℕ
line_from names i [] = []
line_from names i (s ∷ ss) = gap i ++ (word names s ++ line_from names (suc i) ss)

-- where the bytes of an operator, a mark or a prefix stand in the code's table
unfoldable pub mark_at_lem : ℕ → ℕ
mark_at_lem c = if ltb c 60 then c - 40 else if ltb c 64 then c - 46 else c - 127
