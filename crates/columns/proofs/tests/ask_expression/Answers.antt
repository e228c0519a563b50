-- `tests::ask_expression` meets its contract.
use native.Mathlib.Omega.{arith}
use borrow.Author.Rules.{rules}
use Rattle.columns.proofs.Asking.{spell_asked, spelt_asked, spelt_column}
use Rattle.columns.proofs.tests.ask_expression.Goals as goal

pub overflow_add-n : goal.overflow_add-n
overflow_add-n c = omega (arith, c.requires.wide)

pub spell-requires : goal.spell-requires
spell-requires c = spell_asked c.requires (search rules)

pub ask_spelt-requires : goal.ask_spelt-requires
ask_spelt-requires c = spelt_asked c.requires _ c.spell.ensures

pub returns : goal.returns
returns c = spelt_column c.requires _ c.spell.ensures c.ask_spelt.ensures
