-- The functions of the six levels read an expression of their level, or stop where none goes on.
-- The law of each call and return is in proofs/LevelReturns.antt.
use Rattle.std.proofs.Common.{arith, rules}
use lib.Dec.{lit<}
use Rattle.parser_levels.proofs.LevelReturns.{past_lent, room_one, room_behind, room_choice, ran_lent}
use Rattle.parser_levels.proofs.LevelReturns.{ran_operand, ran_prefix, ran_bracket, ran_stop}
use Rattle.parser_levels.proofs.LevelReturns.{ran_choice, ran_plain}
use Rattle.parser_levels.proofs.LevelReturns.{grew_none, grew_lent, grew_on, grew_out}
use Rattle.parser_levels.proofs.level.+level1_level2_level3_level4_level5_level6.Goals as goal

pub level1-step-requires : goal.level1-step-requires
level1-step-requires t c = omega (arith, (c.rank_at-k.ensures.here (omega arith)).left)

pub level1-emit-requires : goal.level1-emit-requires
level1-emit-requires t c = room_one c.requires c.rank_at-k.ensures c.step.ensures (omega arith)

pub level1-returns-then-k-eq-OPERAND : goal.level1-returns-then-k-eq-OPERAND
level1-returns-then-k-eq-OPERAND t c =
    ran_operand c.requires c.rank_at-k.ensures c.step.ensures c.if-k-eq-OPERAND.true c.emit.ensures

pub level1-step-requires-then-k-eq-PREFIX : goal.level1-step-requires-then-k-eq-PREFIX
level1-step-requires-then-k-eq-PREFIX t c = omega (arith, (c.rank_at-k.ensures.here (omega arith)).left)

pub level1-level1-a-requires : goal.level1-level1-a-requires
level1-level1-a-requires t c =
    let here = c.rank_at-k.ensures.here (omega arith) in (
      omega (arith, here.left),
      past_lent c.requires c.rank_at-k.ensures c.step-then-k-eq-PREFIX.ensures (omega arith),
    )

pub level1-emit-requires-then-k-eq-PREFIX : goal.level1-emit-requires-then-k-eq-PREFIX
level1-emit-requires-then-k-eq-PREFIX t c =
    room_behind c.requires c.rank_at-k.ensures c.step-then-k-eq-PREFIX.ensures (omega arith) c.level1-a.ensures

pub level1-returns-then-k-eq-PREFIX : goal.level1-returns-then-k-eq-PREFIX
level1-returns-then-k-eq-PREFIX t c =
    ran_prefix c.requires c.rank_at-k.ensures c.step-then-k-eq-PREFIX.ensures c.if-k-eq-PREFIX.true
    c.level1-a.ensures c.emit-then-k-eq-PREFIX.ensures

pub level1-step-requires-then-k-eq-OPENING : goal.level1-step-requires-then-k-eq-OPENING
level1-step-requires-then-k-eq-OPENING t c = omega (arith, (c.rank_at-k.ensures.here (omega arith)).left)

pub level1-level6-a-requires : goal.level1-level6-a-requires
level1-level6-a-requires t c =
    let here = c.rank_at-k.ensures.here (omega arith) in (
      omega (arith, here.left),
      past_lent c.requires c.rank_at-k.ensures c.step-then-k-eq-OPENING.ensures (omega arith),
    )

pub level1-returns-then-k-eq-OPENING : goal.level1-returns-then-k-eq-OPENING
level1-returns-then-k-eq-OPENING t c =
    ran_bracket c.requires c.rank_at-k.ensures c.step-then-k-eq-OPENING.ensures c.if-k-eq-OPENING.true
    c.level6-a.ensures c.eat.ensures

pub level1-returns : goal.level1-returns
level1-returns t c =
    ran_stop c.requires c.rank_at-k.ensures c.if-k-eq-OPERAND.false c.if-k-eq-PREFIX.false
    c.if-k-eq-OPENING.false c.stop.ensures

pub level2-level1-o-requires : goal.level2-level1-o-requires
level2-level1-o-requires t c = search rules

pub level2-loop-nodes-init : goal.level2-loop-nodes-init
level2-loop-nodes-init t c = grew_none c.level1-o.ensures

pub level2-step-requires : goal.level2-step-requires
level2-step-requires t c = omega (arith, (c.rank_at.ensures.here (omega arith)).left)

pub level2-level1-b-requires : goal.level2-level1-b-requires
level2-level1-b-requires t c =
    let here = c.rank_at.ensures.here (omega arith) in
    let le = grew_lent c.loop-nodes.invariant in
    (omega (arith, here.left), past_lent le c.rank_at.ensures c.step.ensures (omega arith))

pub level2-emit-o-requires : goal.level2-emit-o-requires
level2-emit-o-requires t c =
    let le = grew_lent c.loop-nodes.invariant in
    room_behind le c.rank_at.ensures c.step.ensures (omega arith) c.level1-b.ensures

pub level2-loop-nodes-smaller : goal.level2-loop-nodes-smaller
level2-loop-nodes-smaller t c = omega (arith, (c.rank_at.ensures.here (omega arith)).left)

pub level2-loop-nodes-preserved : goal.level2-loop-nodes-preserved
level2-loop-nodes-preserved t c =
    grew_on c.loop-nodes.invariant c.rank_at.ensures c.loop-nodes-test.true (lit< tt) c.step.ensures
    c.level1-b.ensures c.emit-o.ensures

pub level2-returns : goal.level2-returns
level2-returns t c =
    grew_out c.level1-o.ensures c.loop-nodes.invariant c.rank_at.ensures c.loop-nodes-test.false

pub level3-level2-o-requires : goal.level3-level2-o-requires
level3-level2-o-requires t c = search rules

pub level3-loop-nodes-init : goal.level3-loop-nodes-init
level3-loop-nodes-init t c = grew_none c.level2-o.ensures

pub level3-step-requires : goal.level3-step-requires
level3-step-requires t c = omega (arith, (c.rank_at.ensures.here (omega arith)).left)

pub level3-level2-b-requires : goal.level3-level2-b-requires
level3-level2-b-requires t c =
    let here = c.rank_at.ensures.here (omega arith) in
    let le = grew_lent c.loop-nodes.invariant in
    (omega (arith, here.left), past_lent le c.rank_at.ensures c.step.ensures (omega arith))

pub level3-emit-o-requires : goal.level3-emit-o-requires
level3-emit-o-requires t c =
    let le = grew_lent c.loop-nodes.invariant in
    room_behind le c.rank_at.ensures c.step.ensures (omega arith) c.level2-b.ensures

pub level3-loop-nodes-smaller : goal.level3-loop-nodes-smaller
level3-loop-nodes-smaller t c = omega (arith, (c.rank_at.ensures.here (omega arith)).left)

pub level3-loop-nodes-preserved : goal.level3-loop-nodes-preserved
level3-loop-nodes-preserved t c =
    grew_on c.loop-nodes.invariant c.rank_at.ensures c.loop-nodes-test.true (lit< tt) c.step.ensures
    c.level2-b.ensures c.emit-o.ensures

pub level3-returns : goal.level3-returns
level3-returns t c =
    grew_out c.level2-o.ensures c.loop-nodes.invariant c.rank_at.ensures c.loop-nodes-test.false

pub level4-level3-o-requires : goal.level4-level3-o-requires
level4-level3-o-requires t c = search rules

pub level4-loop-nodes-init : goal.level4-loop-nodes-init
level4-loop-nodes-init t c = grew_none c.level3-o.ensures

pub level4-step-requires : goal.level4-step-requires
level4-step-requires t c = omega (arith, (c.rank_at.ensures.here (omega arith)).left)

pub level4-level3-b-requires : goal.level4-level3-b-requires
level4-level3-b-requires t c =
    let here = c.rank_at.ensures.here (omega arith) in
    let le = grew_lent c.loop-nodes.invariant in
    (omega (arith, here.left), past_lent le c.rank_at.ensures c.step.ensures (omega arith))

pub level4-emit-o-requires : goal.level4-emit-o-requires
level4-emit-o-requires t c =
    let le = grew_lent c.loop-nodes.invariant in
    room_behind le c.rank_at.ensures c.step.ensures (omega arith) c.level3-b.ensures

pub level4-loop-nodes-smaller : goal.level4-loop-nodes-smaller
level4-loop-nodes-smaller t c = omega (arith, (c.rank_at.ensures.here (omega arith)).left)

pub level4-loop-nodes-preserved : goal.level4-loop-nodes-preserved
level4-loop-nodes-preserved t c =
    grew_on c.loop-nodes.invariant c.rank_at.ensures c.loop-nodes-test.true (lit< tt) c.step.ensures
    c.level3-b.ensures c.emit-o.ensures

pub level4-returns : goal.level4-returns
level4-returns t c =
    grew_out c.level3-o.ensures c.loop-nodes.invariant c.rank_at.ensures c.loop-nodes-test.false

pub level5-level4-o-requires : goal.level5-level4-o-requires
level5-level4-o-requires t c = search rules

pub level5-loop-nodes-init : goal.level5-loop-nodes-init
level5-loop-nodes-init t c = grew_none c.level4-o.ensures

pub level5-step-requires : goal.level5-step-requires
level5-step-requires t c = omega (arith, (c.rank_at.ensures.here (omega arith)).left)

pub level5-level4-b-requires : goal.level5-level4-b-requires
level5-level4-b-requires t c =
    let here = c.rank_at.ensures.here (omega arith) in
    let le = grew_lent c.loop-nodes.invariant in
    (omega (arith, here.left), past_lent le c.rank_at.ensures c.step.ensures (omega arith))

pub level5-emit-o-requires : goal.level5-emit-o-requires
level5-emit-o-requires t c =
    let le = grew_lent c.loop-nodes.invariant in
    room_behind le c.rank_at.ensures c.step.ensures (omega arith) c.level4-b.ensures

pub level5-loop-nodes-smaller : goal.level5-loop-nodes-smaller
level5-loop-nodes-smaller t c = omega (arith, (c.rank_at.ensures.here (omega arith)).left)

pub level5-loop-nodes-preserved : goal.level5-loop-nodes-preserved
level5-loop-nodes-preserved t c =
    grew_on c.loop-nodes.invariant c.rank_at.ensures c.loop-nodes-test.true (lit< tt) c.step.ensures
    c.level4-b.ensures c.emit-o.ensures

pub level5-returns : goal.level5-returns
level5-returns t c =
    grew_out c.level4-o.ensures c.loop-nodes.invariant c.rank_at.ensures c.loop-nodes-test.false

pub level6-level5-c-requires : goal.level6-level5-c-requires
level6-level5-c-requires t c = search rules

pub level6-step-requires : goal.level6-step-requires
level6-step-requires t c = omega (arith, (c.rank_at.ensures.here (omega arith)).left)

pub level6-level6-a-requires : goal.level6-level6-a-requires
level6-level6-a-requires t c =
    let here = c.rank_at.ensures.here (omega arith) in (
      omega (arith, here.left),
      past_lent (ran_lent c.level5-c.ensures) c.rank_at.ensures c.step.ensures (omega arith),
    )

pub level6-level6-b-requires : goal.level6-level6-b-requires
level6-level6-b-requires t c =
    let here = c.rank_at.ensures.here (omega arith) in (omega (arith, here.left), search rules)

pub level6-emit-requires : goal.level6-emit-requires
level6-emit-requires t c =
    room_choice (ran_lent c.level5-c.ensures) c.rank_at.ensures c.step.ensures (omega arith)
    c.level6-a.ensures c.eat.ensures c.level6-b.ensures

pub level6-returns-then-rank_at-eq-QUESTION : goal.level6-returns-then-rank_at-eq-QUESTION
level6-returns-then-rank_at-eq-QUESTION t c =
    ran_choice c.level5-c.ensures c.rank_at.ensures c.if-rank_at-eq-QUESTION.true c.step.ensures
    c.level6-a.ensures c.eat.ensures c.level6-b.ensures c.emit.ensures

pub level6-returns : goal.level6-returns
level6-returns t c = ran_plain c.level5-c.ensures c.rank_at.ensures c.if-rank_at-eq-QUESTION.false
