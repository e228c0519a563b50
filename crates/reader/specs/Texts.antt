-- The tokens of a text, as the grammar takes them: tokens_of.
use Rattle.std.specs.Prelude.{List}
use Rattle.tokens.specs.Texts as text
use Rattle.tokens.specs.Tokenizing.{codes_of, places_of}
use Rattle.grammar.specs.declared.Token.{Token}
use Rattle.grammar.specs.Tokens.{tokens}

abbrev pub tokens_of : List text.Token → List Token
tokens_of ts = tokens (codes_of ts) (places_of ts)
