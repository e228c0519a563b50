-- `rewriting::possible::flag_all` meets its contract. The loop's invariant: the alternatives passed have their flags.
use Rattle.contradictions.proofs.Flagging.{Flagging}
use Rattle.alternatives.specs.Listed.{tests_listed}
use Rattle.contradictions.proofs.possible.flag_all.Given as goal

abbrev pub invariant-loop-k : goal.invariant-loop-k
invariant-loop-k l =
    Flagging l.names l.lists.steps.now l.lists.tests.now (tests_listed l.tree l.names l.lists) l.initial.flags l.flags l.s l.t l.k
