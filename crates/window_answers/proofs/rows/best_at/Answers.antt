-- `rows::best_at` meets its contract.
use Rattle.window_answers.proofs.FoundAnswers.{pattern_tree, pattern_pins, found_best}
use Rattle.window_answers.proofs.rows.best_at.Goals as goal

pub find-pins-requires : goal.find-pins-requires
find-pins-requires c = pattern_tree c.requires.pattern

pub best_with-requires : goal.best_with-requires
best_with-requires c =
    let s = c.requires in
    record { pattern = s.pattern; pins = pattern_pins s.pattern _ c.find-pins.ensures; within = s.within }

pub returns : goal.returns
returns c =
    found_best c.requires.pattern _ c.find-pins.ensures c.args.states.now c.args.row
    c.best_with.ensures
