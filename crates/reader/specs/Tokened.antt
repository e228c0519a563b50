-- For the functions inside: a text whose list of names is good and whose tokens are read (Tokened).
use Rattle.std.specs.Prelude.{◌≡◌, List, ℕ}
use Rattle.alf.specs.Refusals.{Passed}
use Rattle.names.specs.Check.{names_order}
use Rattle.tokens.specs.declared.Tokens.{Tokens}
use Rattle.tokens.specs.Texts.{Token, Reads, order}
use Rattle.tokens.specs.Tokenizing.{made}

pub record Tokened (names text : List ℕ) (t : Tokens) : Type 0 where
  pub good : Passed (names_order names)
  pub clear : Passed (order text)
  pub tokens : List Token
  pub read : Reads 0 text tokens
  pub are : t ≡ made tokens
