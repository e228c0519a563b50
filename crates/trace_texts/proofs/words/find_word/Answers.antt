use native.Mathlib.Omega.{arith}
use Rattle.trace_texts.proofs.Found.{looking_first, looking_next, looking_end}
use Rattle.trace_texts.proofs.words.find_word.Goals as goal

pub skip_blanks-at-requires : goal.skip_blanks-at-requires
skip_blanks-at-requires c = c.requires

pub loop-i-init : goal.loop-i-init
loop-i-init c = (omega arith, looking_first c.skip_blanks-at.ensures)

pub skip_word-behind-requires : goal.skip_word-behind-requires
skip_word-behind-requires c = c.loop-i.invariant.1.within

pub skip_blanks-at-requires-in-loop-i : goal.skip_blanks-at-requires-in-loop-i
skip_blanks-at-requires-in-loop-i c = c.skip_word-behind.ensures.within

pub loop-i-preserved : goal.loop-i-preserved
loop-i-preserved c = (
  omega (arith, c.loop-i-test.true),
  looking_next c.loop-i.invariant.1 c.skip_word-behind.ensures c.skip_blanks-at-in-loop-i.ensures,
)

pub skip_word-end-requires : goal.skip_word-end-requires
skip_word-end-requires c = c.loop-i.invariant.1.within

pub returns : goal.returns
returns c =
    looking_end c.loop-i.invariant.1 (omega (arith, c.loop-i.invariant.0, c.loop-i-test.false))
    c.skip_word-end.ensures
