-- `count_untold` meets its contract: the first k tests are counted.
use Rattle.alternative_texts.specs.Inner.{all_tests}
use Rattle.alternative_texts.proofs.Counting.{CountSoFar}
use Rattle.alternative_texts.proofs.showing.count_untold.Given as goal

abbrev pub invariant-loop-k : goal.invariant-loop-k
invariant-loop-k l =
    CountSoFar l.names (all_tests l.names l.tree l.edges l.operands) l.n l.k
