-- `take_two` meets its contract.
use mathlib.Core.Path.{sym, ◌∙◌}
use Rattle.sorting.proofs.OperatorSteps.{two_short, two_wrong, two_right}
use Rattle.sorting.proofs.sorts.take_two.Goals as goal

pub returns-then-s-lt2 : goal.returns-then-s-lt2
returns-then-s-lt2 c = two_short _ c.stop.ensures c.if-s-lt2.true

pub returns-then-byte : goal.returns-then-byte
returns-then-byte c =
    two_wrong _ c.requires c.stop-then-byte.ensures
    (rw (← c.sort_at-left.ensures, ← c.sort_at-right.ensures)
    (sym c.pair_byte-byte.ensures ∙ c.if-byte.true))

pub returns : goal.returns
returns c =
    let l = c.sort_at-left.ensures in
    let r = c.sort_at-right.ensures in
    two_right _ c.requires c.if-s-lt2.false
    (λ e. c.if-byte.false (c.pair_byte-byte.ensures ∙ rw (l, r) e))
    (rw (← l, ← r, ← c.pair_byte-byte.ensures, ← c.either.ensures) c.put.ensures)
