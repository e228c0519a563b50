use native.Mathlib.Omega.{arith}
use Rattle.trace_texts.proofs.OnAndOn.{finds_on}
use Rattle.text_checks.proofs.StateWords.{states_none, states_missing, states_bad, states_next, states_done}
use Rattle.text_checks.proofs.states.check_states.Goals as goal

pub find_word-word-requires : goal.find_word-word-requires
find_word-word-requires c = c.requires.within

pub loop-i-init : goal.loop-i-init
loop-i-init c = (omega arith, c.find_word-word.ensures, states_none _)

pub returns-then-word : goal.returns-then-word
returns-then-word c =
    states_missing c.loop-i-test.true c.loop-i.invariant.2 c.loop-i.invariant.1 _
    c.if-word.true c.refuse.ensures

pub code_at-requires : goal.code_at-requires
code_at-requires c =
    let run = c.loop-i.invariant.1.run in
    record { ordered = run.low; within = run.within }

pub returns-then-code_at-gt7 : goal.returns-then-code_at-gt7
returns-then-code_at-gt7 c =
    states_bad c.loop-i-test.true c.loop-i.invariant.2 c.loop-i.invariant.1 c.if-word.false
    _ c.code_at.ensures c.if-code_at-gt7.true c.refuse-then-code_at-gt7.ensures

pub find_word-word-requires-in-loop-i : goal.find_word-word-requires-in-loop-i
find_word-word-requires-in-loop-i c =
    let run = c.loop-i.invariant.1.run in
    omega (arith, run.low, run.within)

pub loop-i-preserved : goal.loop-i-preserved
loop-i-preserved c = (
  omega (arith, c.loop-i-test.true),
  finds_on c.loop-i.invariant.1 c.find_word-word-in-loop-i.ensures,
  states_next c.loop-i-test.true c.loop-i.invariant.2 c.loop-i.invariant.1
      c.if-word.false c.code_at.ensures c.if-code_at-gt7.false,
)

pub returns : goal.returns
returns c =
    states_done _ (omega (arith, c.loop-i.invariant.0, c.loop-i-test.false)) c.loop-i.invariant.2
