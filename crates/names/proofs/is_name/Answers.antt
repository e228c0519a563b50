use borrow.Author.Rules.{rules}
use native.Mathlib.Omega.{arith}
use mathlib.Core.Path.{sym, ◌∙◌}
use Rattle.alf.specs.Names.{goes_on_name}
use borrow.Author.Tests.{tests}
use lib.ListN.{drop}
use Rattle.std.proofs.lemmas.List.{take_rest}
use Rattle.std.proofs.lemmas.Iterator.{YieldsList-from_slice}
use Rattle.std.proofs.lemmas.Iterator.Search.{all_from_yields_List}
use Rattle.basics.proofs.Walked.{all_is}
use Rattle.names.proofs.Names.{name_empty, name_long, name_start, name_rest}
use Rattle.names.proofs.is_name.Goals as goal

pub returns-then-n-eq0 : goal.returns-then-n-eq0
returns-then-n-eq0 c = name_empty _ (omega arith)

pub returns-then-n-gt32 : goal.returns-then-n-gt32
returns-then-n-gt32 c = name_long _ (omega arith)

pub returns-then-not-starts_name : goal.returns-then-not-starts_name
returns-then-not-starts_name c = name_start _ (sym c.starts_name.ensures ∙ c.if-not-starts_name.true)

pub returns : goal.returns
returns c =
    all_from_yields_List goes_on_name _ _ c.all.result c.all.ensures.ran
    (YieldsList-from_slice (drop 1 c.args.s.now) (c.iter.ensures.rest ∙ take_rest c.args.s.now 1))
    (λ x b q k. search (rules, tests))
    ∙ all_is goes_on_name (drop 1 c.args.s.now)
    ∙ sym (name_rest _ (omega arith) (omega arith) (sym c.starts_name.ensures ∙ c.if-not-starts_name.false))
