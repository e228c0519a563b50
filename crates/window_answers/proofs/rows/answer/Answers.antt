-- `rows::answer` meets its contract.
use Rattle.window_answers.proofs.FoundAnswers.{pattern_tree, pattern_pins, found_answer}
use Rattle.window_answers.proofs.rows.answer.Goals as goal

pub find-pins-requires : goal.find-pins-requires
find-pins-requires c = pattern_tree c.requires.pattern

pub answer_with-requires : goal.answer_with-requires
answer_with-requires c =
    let s = c.requires in
    record { pattern = s.pattern; pins = pattern_pins s.pattern _ c.find-pins.ensures; within = s.within }

pub returns : goal.returns
returns c =
    found_answer c.requires.pattern _ c.find-pins.ensures c.args.states.now c.args.a c.args.b
    c.answer_with.ensures
