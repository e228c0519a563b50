-- The falling number of a level's function is tokens left, then the level; of a loop, tokens left.
-- A loop keeps that the level is read as far as it has come.
use Rattle.std.proofs.Common.{◌+◌, ◌-◌, ◌*◌, length}
use Rattle.parser_levels.proofs.LevelReturns.{Grew}
use Rattle.parser_levels.proofs.level.+level1_level2_level3_level4_level5_level6.Given as goal

abbrev pub decreases-level1 : goal.decreases-level1
decreases-level1 l = (length l.codes.now - l.s.at) * 8 + 1

abbrev pub decreases-level2 : goal.decreases-level2
decreases-level2 l = (length l.codes.now - l.s.at) * 8 + 2

abbrev pub decreases-level3 : goal.decreases-level3
decreases-level3 l = (length l.codes.now - l.s.at) * 8 + 3

abbrev pub decreases-level4 : goal.decreases-level4
decreases-level4 l = (length l.codes.now - l.s.at) * 8 + 4

abbrev pub decreases-level5 : goal.decreases-level5
decreases-level5 l = (length l.codes.now - l.s.at) * 8 + 5

abbrev pub decreases-level6 : goal.decreases-level6
decreases-level6 l = (length l.codes.now - l.s.at) * 8 + 6

abbrev pub invariant-level2-loop-nodes : goal.invariant-level2-loop-nodes
invariant-level2-loop-nodes l = Grew 1 l.codes l.initial.o l.initial.nodes l.o l.nodes

abbrev pub decreases-level2-loop-nodes : goal.decreases-level2-loop-nodes
decreases-level2-loop-nodes l = length l.codes - l.o.at

abbrev pub invariant-level3-loop-nodes : goal.invariant-level3-loop-nodes
invariant-level3-loop-nodes l = Grew 2 l.codes l.initial.o l.initial.nodes l.o l.nodes

abbrev pub decreases-level3-loop-nodes : goal.decreases-level3-loop-nodes
decreases-level3-loop-nodes l = length l.codes - l.o.at

abbrev pub invariant-level4-loop-nodes : goal.invariant-level4-loop-nodes
invariant-level4-loop-nodes l = Grew 3 l.codes l.initial.o l.initial.nodes l.o l.nodes

abbrev pub decreases-level4-loop-nodes : goal.decreases-level4-loop-nodes
decreases-level4-loop-nodes l = length l.codes - l.o.at

abbrev pub invariant-level5-loop-nodes : goal.invariant-level5-loop-nodes
invariant-level5-loop-nodes l = Grew 4 l.codes l.initial.o l.initial.nodes l.o l.nodes

abbrev pub decreases-level5-loop-nodes : goal.decreases-level5-loop-nodes
decreases-level5-loop-nodes l = length l.codes - l.o.at
