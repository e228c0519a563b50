-- `put_head` meets its contract: a word, all names, a word.
use Prim.Native.Nat.{ℕ}
use mathlib.Core.List.{List, [], ◌∷◌}
use Rattle.basics.proofs.PartByPart.{Going, going_room, going_on, going_end}
use Rattle.basics.specs.Text.{bytes}
use Rattle.basics.specs.Memory.{Put}
use Rattle.row_lines.specs.Lines.{members}
use Rattle.activity.specs.Activity.{head_line}
use Rattle.row_lines.specs.Inner.{marked}
use Rattle.activity.proofs.WholeText.{head_start}
use Rattle.activity.proofs.texts.put_head.Goals as goal
use Rattle.activity.proofs.texts.put_head.Goals.{Start}

-- of the line, what is left
abbrev Left : Start → List (List ℕ) → List ℕ → ℕ → Type 0
Left s = Going s.args.out.now s.args.at (head_line s.args.names.now s.args.k)

abbrev all : Start → List (List ℕ)
all s = members s.args.names.now s.args.k (marked 4294967295) ∷ bytes " changed\n" ∷ []

begun : (s : Start) → Left s (bytes "time" ∷ all s) s.args.out.now s.args.at
begun s = head_start _ s.requires.slots.few s.requires.room

worded : (s : Start) {out : List ℕ} {p : ℕ} → Put s.args.out.now s.args.at (bytes "time") out p
    → Left s (all s) out p
worded s h = going_on (begun s) h

pub put-p-requires : goal.put-p-requires
unfolding bytes
put-p-requires c = going_room (begun (goal.at.put-p-requires c).Start)

pub put_members-q-requires : goal.put_members-q-requires
unfolding bytes
put_members-q-requires c =
    let names_left = worded (goal.at.put_members-q-requires c).Start c.put-p.ensures in
    record { slots = c.requires.slots; room = going_room names_left }

pub put-requires : goal.put-requires
unfolding bytes
put-requires c =
    let names_left = worded (goal.at.put-requires c).Start c.put-p.ensures in
    going_room (going_on names_left c.put_members-q.ensures)

pub returns : goal.returns
unfolding bytes
returns c =
    let names_left = worded (goal.at.returns c).Start c.put-p.ensures in
    going_end (going_on (going_on names_left c.put_members-q.ensures) c.put.ensures)
