use native.Mathlib.Omega.{arith}
use Rattle.matcher.proofs.Filling.{row_asked, filling_first, filling_next, filling_end}
use Rattle.matcher.proofs.Filling.{answers_length, tried_length}
use Rattle.matcher.proofs.tables.match_all.Goals as goal

pub loop-i-init : goal.loop-i-init
loop-i-init c = filling_first

pub match_row-m-requires : goal.match_row-m-requires
match_row-m-requires c = row_asked _ c.requires.asked c.loop-i-test.true

pub bounds-answers-i : goal.bounds-answers-i
bounds-answers-i c = omega (arith, answers_length c.loop-i.invariant, c.requires.room)

pub bounds-tried-i : goal.bounds-tried-i
bounds-tried-i c = omega (arith, tried_length c.loop-i.invariant, c.requires.space)

pub loop-i-preserved : goal.loop-i-preserved
loop-i-preserved c =
    filling_next c.loop-i.invariant c.loop-i-test.true c.match_row-m.ensures c.number_of.ensures

pub shape_of-answers : goal.shape_of-answers
shape_of-answers c = answers_length c.loop-i.invariant

pub shape_of-tried : goal.shape_of-tried
shape_of-tried c = tried_length c.loop-i.invariant

pub returns : goal.returns
returns c = filling_end c.loop-i.invariant c.loop-i-test.false c.requires.room c.requires.space
