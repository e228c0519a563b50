-- `place_at` gives a token's byte, or the text's length.
use borrow.Author.Tests.{lt-ltb, le-ltb}
use native.Mathlib.Omega.{arith}
use Rattle.grammar.specs.Answers.{place_at}
use Rattle.parser.proofs.place_at.Goals as goal

pub overflow_cast-result : goal.overflow_cast-result
overflow_cast-result c = omega (arith, c.type_inv.places c.args.at)

pub returns-then-at-places : goal.returns-then-at-places
unfolding place_at
returns-then-at-places c = simp (lt-ltb _ _ c.if-at-places.true)

pub returns : goal.returns
unfolding place_at
returns c = simp (le-ltb _ _ c.if-at-places.false)
