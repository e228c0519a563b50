-- `put_line` meets its contract: the time and a blank, the word, the line's end.
use Prim.Native.Nat.{ℕ}
use mathlib.Core.List.{List, [], ◌∷◌, ◌++◌}
use Rattle.basics.proofs.PartByPart.{Going, going_room, going_byte, going_on, going_two, going_end}
use Rattle.basics.specs.Text.{bytes}
use Rattle.figures.specs.Numbers.{decimal}
use Rattle.listing.specs.Listing.{word_of, line}
use Rattle.listing.proofs.RowByRow.{line_start}
use Rattle.listing.proofs.lines.put_line.Goals as goal
use Rattle.listing.proofs.lines.put_line.Goals.{Start}

-- of the line, what is left
abbrev Left : Start → List (List ℕ) → List ℕ → ℕ → Type 0
Left s = Going s.args.out.now s.args.at (line s.args.column s.args.time.0 s.args.a)

begun : (s : Start)
    → Left s ((decimal s.args.time.0 ++ bytes " ") ∷ word_of s.args.column s.args.a ∷ bytes "\n" ∷ [])
    s.args.out.now s.args.at
begun s =
    going_two (line_start s.args.column s.args.time.0 s.args.a s.args.out.now s.args.at
    s.requires.room)

pub put_decimal_then-p-requires : goal.put_decimal_then-p-requires
unfolding bytes
put_decimal_then-p-requires c = going_room (begun (goal.at.put_decimal_then-p-requires c).Start)

pub put_code-q-requires : goal.put_code-q-requires
unfolding bytes
put_code-q-requires c =
    let start = begun (goal.at.put_code-q-requires c).Start in
    let timed = going_on start c.put_decimal_then-p.ensures in
    record { known = c.requires.known; room = going_room timed }

pub push-requires : goal.push-requires
unfolding bytes
push-requires c =
    let start = begun (goal.at.push-requires c).Start in
    let timed = going_on start c.put_decimal_then-p.ensures in
    let worded = going_on timed c.put_code-q.ensures in
    going_byte worded

pub returns : goal.returns
unfolding bytes
returns c =
    let start = begun (goal.at.returns c).Start in
    let timed = going_on start c.put_decimal_then-p.ensures in
    let worded = going_on timed c.put_code-q.ensures in
    going_end (going_on worded c.push.ensures)
