-- `finish` meets its contract: columns, the pattern and the line's end are written.
use Prim.Native.Nat.{ℕ, ◌+◌, ◌≤◌}
use mathlib.Core.List.{List, [], ◌∷◌, map}
use lib.ListN.{length}
use Rattle.basics.proofs.PartByPart.{Going, going_room, going_byte, going_on, going_end}
use Rattle.basics.specs.Text.{bytes}
use Rattle.figures.proofs.Delivering.{short, delivered}
use Rattle.table_lines.specs.Table.{plain, ended}
use Rattle.table_lines.proofs.LineEnds.{ended_size, ended_start}
use Rattle.table_lines.proofs.lines.finish.Goals as goal
use Rattle.table_lines.proofs.lines.finish.Goals.{Start}

-- of the line, what is left
abbrev Left : Start → List (List ℕ) → List ℕ → ℕ → Type 0
Left s = Going s.args.out.now 0 (ended s.args.columns.now s.args.pattern.now)

begun : (s : Start) → length s.args.columns.now + length s.args.pattern.now + 1 ≤ length
    s.args.out.now
    → Left s (s.args.columns.now ∷ map plain s.args.pattern.now ∷ bytes "\n" ∷ []) s.args.out.now 0
begun s = ended_start s.args.columns.now s.args.pattern.now s.args.out.now

pub returns-then-out-size : goal.returns-then-out-size
returns-then-out-size c =
    short (ended_size c.args.columns.now c.args.pattern.now) c.if-out-size.true c.refuse.ensures

pub put-p-requires : goal.put-p-requires
put-p-requires c = going_room (begun (goal.at.put-p-requires c).Start c.if-out-size.false)

pub put_plain-q-requires : goal.put_plain-q-requires
put_plain-q-requires c =
    let start = begun (goal.at.put_plain-q-requires c).Start c.if-out-size.false in
    let at_pattern = going_on start c.put-p.ensures in
    going_room at_pattern

pub push-requires : goal.push-requires
unfolding bytes
push-requires c =
    let start = begun (goal.at.push-requires c).Start c.if-out-size.false in
    let at_pattern = going_on start c.put-p.ensures in
    let at_end = going_on at_pattern c.put_plain-q.ensures in
    going_byte at_end

pub returns : goal.returns
unfolding bytes
returns c =
    let start = begun (goal.at.returns c).Start c.if-out-size.false in
    let at_pattern = going_on start c.put-p.ensures in
    let at_end = going_on at_pattern c.put_plain-q.ensures in
    delivered (ended_size c.args.columns.now c.args.pattern.now) c.if-out-size.false
    (going_end (going_on at_end c.push.ensures))
