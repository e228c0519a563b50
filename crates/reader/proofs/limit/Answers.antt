-- `limit` meets its contract.
use borrow.Author.Rules.{rules}
use mathlib.Core.Path.{sym, ◌∙◌}
use Rattle.reader.proofs.Limiting.{left_over, limit_boolean, limit_asks}
use Rattle.reader.proofs.Limiting.{limit_over, limit_within}
use Rattle.reader.proofs.limit.Goals as goal

pub returns-then-has_sort : goal.returns-then-has_sort
returns-then-has_sort c =
    limit_boolean _ (left_over c.requires)
    (sym c.has_sort.ensures ∙ c.if-has_sort.true)

pub is_over-requires : goal.is_over-requires
is_over-requires c =
    limit_asks c.args.rules (left_over c.requires) (sym c.has_sort.ensures ∙ c.if-has_sort.false)
    c.tree_of-tree.ensures (search rules)

pub returns-then-is_over : goal.returns-then-is_over
returns-then-is_over c =
    limit_over _ (left_over c.requires) (sym c.has_sort.ensures ∙ c.if-has_sort.false)
    c.tree_of-tree.ensures c.is_over.ensures c.if-is_over.true
    c.refusal_of.ensures

pub returns : goal.returns
returns c =
    limit_within _ (left_over c.requires) (sym c.has_sort.ensures ∙ c.if-has_sort.false)
    c.tree_of-tree.ensures c.is_over.ensures c.if-is_over.false
