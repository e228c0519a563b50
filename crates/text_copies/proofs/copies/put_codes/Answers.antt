use native.Mathlib.Omega.{arith}
use Rattle.basics.proofs.Stores.{writing_first, writing_length}
use Rattle.trace_texts.proofs.OnAndOn.{finds_on}
use Rattle.text_copies.proofs.Copying.{codes_next, codes_put}
use Rattle.text_copies.proofs.copies.put_codes.Goals as goal

pub find_word-word-requires : goal.find_word-word-requires
find_word-word-requires c = c.requires.within

pub loop-i-init : goal.loop-i-init
loop-i-init c = (omega arith, c.find_word-word.ensures, writing_first)

pub code_at-requires : goal.code_at-requires
code_at-requires c =
    let run = c.loop-i.invariant.1.run in
    record { ordered = run.low; within = run.within }

pub overflow_add-out : goal.overflow_add-out
overflow_add-out c = omega (arith, c.loop-i-test.true, c.requires.room)

pub bounds-out-at : goal.bounds-out-at
bounds-out-at c =
    omega (
      arith,
      c.loop-i-test.true,
      c.requires.room,
      writing_length c.loop-i.invariant.2,
    )

pub find_word-word-requires-in-loop-i : goal.find_word-word-requires-in-loop-i
find_word-word-requires-in-loop-i c =
    let run = c.loop-i.invariant.1.run in
    omega (arith, run.low, run.within)

pub loop-i-preserved : goal.loop-i-preserved
loop-i-preserved c = (
  omega (arith, c.loop-i-test.true),
  finds_on c.loop-i.invariant.1 c.find_word-word-in-loop-i.ensures,
  codes_next _ _ _ _ _ c.loop-i-test.true c.loop-i.invariant.1 c.code_at.ensures
      c.loop-i.invariant.2,
)

pub overflow_add-result : goal.overflow_add-result
overflow_add-result c = omega (arith, c.requires.room)

pub shape_of-out : goal.shape_of-out
shape_of-out c = writing_length c.loop-i.invariant.2

pub returns : goal.returns
returns c = codes_put _ _ _ c.loop-i.invariant.2 c.loop-i-test.false
