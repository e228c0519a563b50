-- `read_nodes` meets its contract: the pass over the nodes comes to what the tree is sorted as.
use mathlib.Core.Path.{sym, ◌∙◌}
use Rattle.sorting.specs.Sorts.{sorted_for}
use Rattle.reader.proofs.Trees.{nodes_handed, pass_tree, stopped_inside, answer_stopped}
use Rattle.reader.proofs.Trees.{answer_wrong, answer_read}
use Rattle.reader.proofs.read_nodes.Goals as goal

pub sort_nodes-s-requires : goal.sort_nodes-s-requires
sort_nodes-s-requires c = nodes_handed c.requires

pub refuse_token-requires : goal.refuse_token-requires
refuse_token-requires c = stopped_inside c.requires c.sort_nodes-s.ensures c.if-not-s.true

pub returns-then-not-s : goal.returns-then-not-s
unfolding sorted_for
returns-then-not-s c =
    let n = c.sort_nodes-s in
    record {
      given = λ e f q.
          answer_stopped _ _ _ (pass_tree e f q n.ensures) c.if-not-s.true
          c.refuse_token.ensures;
    }

pub returns-then-not-has_sort : goal.returns-then-not-has_sort
unfolding sorted_for
returns-then-not-has_sort c =
    record {
      given = λ e f q.
          answer_wrong _ _ _ (pass_tree e f q c.sort_nodes-s.ensures) c.if-not-s.false
          (sym c.has_sort.ensures ∙ c.if-not-has_sort.true) c.refuse_token-then-not-has_sort.ensures;
    }

pub returns : goal.returns
unfolding sorted_for
returns c =
    record {
      given = λ e f q.
          answer_read _ _ _ (pass_tree e f q c.sort_nodes-s.ensures) c.if-not-s.false
          (sym c.has_sort.ensures ∙ c.if-not-has_sort.false);
    }
