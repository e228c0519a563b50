use Prim.Native.Nat.{◌<◌}
use native.Mathlib.Omega.{arith}
use lib.ListN.{length}
use Rattle.trace_texts.proofs.Behind.{seeking_first, seeking_next, next_none, next_end, next_found}
use Rattle.trace_texts.proofs.lines.next_line.Goals as goal
use Rattle.trace_texts.proofs.lines.next_line.Goals.{Else-w-text}

-- the place behind the blanks is inside the text
inside : (c : Else-w-text)
    → c.skip_blanks-w.result < length c.args.text.now
inside c = omega (arith, c.skip_blanks-w.ensures.within, c.if-w-text.false)

pub loop-at-init : goal.loop-at-init
loop-at-init c = seeking_first c.requires

pub skip_blanks-w-requires : goal.skip_blanks-w-requires
skip_blanks-w-requires c = c.loop-at.invariant.within

pub returns-then-w-text : goal.returns-then-w-text
returns-then-w-text c = next_end c.loop-at.invariant c.skip_blanks-w.ensures c.if-w-text.true

pub bounds-text-w : goal.bounds-text-w
bounds-text-w c = inside (goal.at.bounds-text-w c).Else-w-text

pub returns-then-opens : goal.returns-then-opens
returns-then-opens c =
    next_found c.loop-at.invariant c.skip_blanks-w.ensures c.opens.ensures
    c.if-opens.true

pub behind_line-at-requires : goal.behind_line-at-requires
behind_line-at-requires c = c.skip_blanks-w.ensures.within

pub loop-at-smaller : goal.loop-at-smaller
loop-at-smaller c =
    omega (
      arith,
      inside (goal.at.loop-at-smaller c).Else-w-text,
      c.skip_blanks-w.ensures.low,
      c.behind_line-at.ensures.on (inside (goal.at.loop-at-smaller c).Else-w-text),
      c.behind_line-at.ensures.within,
    )

pub loop-at-preserved : goal.loop-at-preserved
loop-at-preserved c =
    seeking_next c.loop-at.invariant c.skip_blanks-w.ensures (inside (goal.at.loop-at-preserved c).Else-w-text)
    c.opens.ensures c.if-opens.false c.behind_line-at.ensures

pub returns : goal.returns
returns c = next_none c.loop-at.invariant c.loop-at-test.false
