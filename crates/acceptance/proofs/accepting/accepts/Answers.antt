-- `accepting::accepts` meets its contract.
use mathlib.Core.Path.{sym, ◌∙◌}
use Rattle.acceptance.proofs.Acceptance.{boolean_ends, vector_ends, vector_tree_lem, too_many, no_tree, not_vector}
use Rattle.acceptance.proofs.Acceptance.{not_boolean}
use Rattle.acceptance.proofs.Acceptance.{boolean_accepts, vector_accepts, over_accepts}
use Rattle.std.specs.Prelude.{Some}
use mathlib.Core.Path.{◌≡◌}
use Rattle.alf.specs.declared.Sort.TheVariants as sort
use Rattle.trees.specs.Sorts.{tree_kind}
use Rattle.trees.proofs.Starts.{of_vector}
use Rattle.acceptance.proofs.accepting.accepts.Goals as goal

pub returns-then-tree-gt256 : goal.returns-then-tree-gt256
returns-then-tree-gt256 c = too_many _ _ _ _ c.if-tree-gt256.true

pub is_shallow-requires : goal.is_shallow-requires
is_shallow-requires c =
    let k : tree_kind c.args.tree.now c.args.names ≡ Some sort.Boolean = cc in
    boolean_ends _ _ k

pub is_small-requires : goal.is_small-requires
is_small-requires c =
    let k : tree_kind c.args.tree.now c.args.names ≡ Some sort.Vector = cc in
    vector_tree_lem _ _ k c.if-tree-gt256.false

pub is_shallow-requires-then-is_small : goal.is_shallow-requires-then-is_small
is_shallow-requires-then-is_small c =
    let k : tree_kind c.args.tree.now c.args.names ≡ Some sort.Vector = cc in
    of_vector (vector_ends _ _ k)

pub returns-in-Some-Boolean-Boolean : goal.returns-in-Some-Boolean-Boolean
returns-in-Some-Boolean-Boolean c =
    let k : tree_kind c.args.tree.now c.args.names ≡ Some sort.Boolean = cc in
    boolean_accepts _ _ _ _ _ k c.in-Some-Boolean-Boolean.is-1 c.if-tree-gt256.false c.is_shallow.ensures

pub returns-then-is_small : goal.returns-then-is_small
returns-then-is_small c =
    let k : tree_kind c.args.tree.now c.args.names ≡ Some sort.Vector = cc in
    vector_accepts _ _ _ _ k _ c.in-Some-Vector-Vector.is-1 c.if-tree-gt256.false
    (rw c.if-is_small.true at c.is_small.ensures) c.is_shallow-then-is_small.ensures

pub returns-else-is_small : goal.returns-else-is_small
returns-else-is_small c =
    let k : tree_kind c.args.tree.now c.args.names ≡ Some sort.Vector = cc in
    rw c.if-is_small.false
    (over_accepts _ _ _ _ k (rw c.if-is_small.false at c.is_small.ensures))

pub returns-in_default : goal.returns-in_default
returns-in_default c =
    let k : tree_kind c.args.tree.now c.args.names ≡ Some sort.Boolean = cc in
    not_vector _ _ _ _ k c.in_default.is-1

pub returns-in_default-2 : goal.returns-in_default-2
returns-in_default-2 c =
    let k : tree_kind c.args.tree.now c.args.names ≡ Some sort.Vector = cc in
    not_boolean _ _ _ _ k c.in_default.is-1

pub returns-in_default-3 : goal.returns-in_default-3
returns-in_default-3 c = no_tree _ _ _ _ (sym c.kind_of.ensures ∙ c.in_default.is-0)
