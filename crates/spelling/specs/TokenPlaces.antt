-- The tokens of a written text, with the bytes at which they begin: one blank stands between two of them.
--   tokens_from           some tokens, the first of which begins at a byte
-- That the text reads as these tokens is a law.
use Rattle.std.specs.Prelude.{ℕ, suc, ◌+◌, List, [], ◌∷◌, length}
use Rattle.grammar.specs.declared.Token.{Token}
use Rattle.tokens.specs.Texts as texts
use Rattle.spelling.specs.Spelled.{spelled}

unfoldable pub tokens_from : List ℕ → ℕ → List Token → List texts.Token
tokens_from names p [] = []
tokens_from names p (t ∷ ts) = texts.token_at t.code p ∷ tokens_from names (suc (p + length (spelled names t))) ts
