-- `put_point` meets its contract.
use mathlib.Core.List.{[], ◌∷◌}
use Rattle.basics.proofs.PartByPart.{Going, going_room, going_on, going_two, going_end}
use Rattle.figures.specs.Numbers.{digits}
use Rattle.figures.specs.Share.{with_point}
use Rattle.figures.proofs.ShareParts.{point_start}
use Rattle.figures.proofs.shares.put_point.Goals as goal
use Rattle.figures.proofs.shares.put_point.Goals.{After-put_decimal_then-p}

-- behind the point the last six digits are left
behind_point : (c : After-put_decimal_then-p) →
    Going c.args.out.now c.args.at (with_point c.args.m) (digits 6 c.args.m ∷ [])
    c.put_decimal_then-p.new.out c.put_decimal_then-p.result
behind_point c =
    going_on (going_two (point_start c.args.m c.args.out.now c.args.at c.requires))
    c.put_decimal_then-p.ensures

pub put_decimal_then-p-requires : goal.put_decimal_then-p-requires
put_decimal_then-p-requires c =
    going_room (going_two (point_start c.args.m c.args.out.now c.args.at c.requires))

pub put_digits-requires : goal.put_digits-requires
put_digits-requires c = going_room (behind_point (goal.at.put_digits-requires c).After-put_decimal_then-p)

pub returns : goal.returns
returns c =
    going_end (going_on (behind_point (goal.at.returns c).After-put_decimal_then-p)
    c.put_digits.ensures)
