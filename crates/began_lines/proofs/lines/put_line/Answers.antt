-- `put_line` meets its contract: the time and a blank, the answer's word, a blank, the third column, the line's end.
use Prim.Native.Nat.{ℕ}
use mathlib.Core.List.{List, [], ◌∷◌, ◌++◌}
use Rattle.basics.proofs.PartByPart.{Going, going_room, going_byte, going_on, going_two, going_end}
use Rattle.basics.specs.Text.{bytes}
use Rattle.figures.specs.Numbers.{decimal}
use Rattle.listing.specs.Listing.{word}
use Rattle.began_lines.specs.BeganListing.{began_word, began_line}
use Rattle.began_lines.proofs.ThirdColumn.{line_start}
use Rattle.began_lines.proofs.lines.put_line.Goals as goal
use Rattle.began_lines.proofs.lines.put_line.Goals.{Start}

-- of the line, what is left
abbrev Left : Start → List (List ℕ) → List ℕ → ℕ → Type 0
Left s = Going s.args.out.now s.args.at (began_line s.args.time.0 s.args.a s.args.b)

abbrev column : Start → List (List ℕ)
column s = began_word s.args.b ∷ bytes "\n" ∷ []

begun : (s : Start)
    → Left s ((decimal s.args.time.0 ++ bytes " ") ∷ word s.args.a ∷ bytes " " ∷ column s) s.args.out.now
    s.args.at
begun s =
    going_two
    (line_start s.args.time.0 s.args.a s.args.b s.args.out.now s.args.at s.requires.room)

pub put_decimal_then-p-requires : goal.put_decimal_then-p-requires
unfolding bytes
put_decimal_then-p-requires c = going_room (begun (goal.at.put_decimal_then-p-requires c).Start)

pub put_word-q-requires : goal.put_word-q-requires
unfolding bytes
put_word-q-requires c =
    let start = begun (goal.at.put_word-q-requires c).Start in
    let timed = going_on start c.put_decimal_then-p.ensures in
    record { known = c.requires.known; room = going_room timed }

pub push-r-requires : goal.push-r-requires
unfolding bytes
push-r-requires c =
    let start = begun (goal.at.push-r-requires c).Start in
    let timed = going_on start c.put_decimal_then-p.ensures in
    let worded = going_on timed c.put_word-q.ensures in
    going_byte worded

pub put_began-s-requires : goal.put_began-s-requires
unfolding bytes
put_began-s-requires c =
    let start = begun (goal.at.put_began-s-requires c).Start in
    let timed = going_on start c.put_decimal_then-p.ensures in
    let worded = going_on timed c.put_word-q.ensures in
    let spaced = going_on worded c.push-r.ensures in
    going_room spaced

pub push-requires : goal.push-requires
unfolding bytes
push-requires c =
    let start = begun (goal.at.push-requires c).Start in
    let timed = going_on start c.put_decimal_then-p.ensures in
    let worded = going_on timed c.put_word-q.ensures in
    let spaced = going_on worded c.push-r.ensures in
    let dated = going_on spaced c.put_began-s.ensures in
    going_byte dated

pub returns : goal.returns
unfolding bytes
returns c =
    let start = begun (goal.at.returns c).Start in
    let timed = going_on start c.put_decimal_then-p.ensures in
    let worded = going_on timed c.put_word-q.ensures in
    let spaced = going_on worded c.push-r.ensures in
    let dated = going_on spaced c.put_began-s.ensures in
    going_end (going_on dated c.push.ensures)
