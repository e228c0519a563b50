-- `step` meets its contract.
use borrow.Author.Rules.{rules}
use borrow.Author.Tests.{not-true, not-false}
use Rattle.sorting.proofs.NodeCodes.{node_one}
use Rattle.sorting.proofs.OperatorSteps.{node_still, node_leaf_put, node_two_took}
use Rattle.sorting.proofs.OperatorSteps.{node_three_took, node_one_took}
use Rattle.sorting.proofs.sorts.step.Goals as goal

pub returns-then-not-s : goal.returns-then-not-s
returns-then-not-s c = node_still _ _ c.requires.fine (not-true _ c.if-not-s.true)

pub put-requires : goal.put-requires
put-requires c =
    record {
      fine = search rules;
      there = search rules;
      spare = search rules;
      goes = not-false _ c.if-not-s.false;
    }

pub returns-then-code-lt40 : goal.returns-then-code-lt40
returns-then-code-lt40 c =
    node_leaf_put _ _ c.requires (not-false _ c.if-not-s.false)
    c.if-code-lt40.true
    c.put.ensures

pub take_two-requires : goal.take_two-requires
take_two-requires c =
    record {
      fine = search rules;
      spare = search rules;
      goes = not-false _ c.if-not-s.false;
      known = search rules;
      low = search rules;
      high = search rules;
    }

pub returns-then-code-lt60 : goal.returns-then-code-lt60
returns-then-code-lt60 c =
    node_two_took _ _ (not-false _ c.if-not-s.false) c.if-code-lt40.false
    c.if-code-lt60.true c.take_two.ensures

pub take_three-requires : goal.take_three-requires
take_three-requires c =
    record {
      fine = search rules;
      spare = search rules;
      goes = not-false _ c.if-not-s.false;
      known = search rules;
      low = search rules;
      high = search rules;
    }

pub returns-then-code-lt64 : goal.returns-then-code-lt64
returns-then-code-lt64 c =
    node_three_took _ _ (not-false _ c.if-not-s.false) c.if-code-lt60.false
    c.if-code-lt64.true c.take_three.ensures

pub take_one-requires : goal.take_one-requires
take_one-requires c =
    record {
      fine = search rules;
      spare = search rules;
      goes = not-false _ c.if-not-s.false;
      known = search rules;
      low = search rules;
      high = node_one _ c.requires.known;
    }

pub returns : goal.returns
returns c =
    node_one_took _ _ (not-false _ c.if-not-s.false) c.if-code-lt64.false
    c.take_one.ensures
