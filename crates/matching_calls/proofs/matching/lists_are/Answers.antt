-- `matching::lists_are` meets its contract.
use Rattle.basics.specs.Deciding.{Decides}
use Rattle.basics.proofs.Deciding.{same_decided, eqb_decides}
use Rattle.matching_calls.proofs.matching.lists_are.Goals as goal

pub returns-then-times-n : goal.returns-then-times-n
unfolding Decides
returns-then-times-n c = λ s. c.if-times-n.true s.times_all

pub returns-then-answers-n : goal.returns-then-answers-n
unfolding Decides
returns-then-answers-n c = λ s. c.if-answers-n.true s.answers_all

pub returns-then-tried-n : goal.returns-then-tried-n
unfolding Decides
returns-then-tried-n c = λ s. c.if-tried-n.true s.tried_all

pub returns-then-given-n : goal.returns-then-given-n
unfolding Decides
returns-then-given-n c = λ s. c.if-given-n.true s.given_all

pub returns : goal.returns
returns c =
    let args = c.args in
    same_decided _ _ _
    (λ l.
    record {
      times_all = c.if-times-n.false;
      answers_all = c.if-answers-n.false;
      tried_all = c.if-tried-n.false;
      given_all = c.if-given-n.false;
      began_all = l;
    })
    (λ s. s.began_all) (eqb_decides args.began args.n)
