-- How long the activity listing of a trace can be: 65,535 lines of 1,144 bytes, and a head of 1,069.
-- Main names: activity_fits, part_fits. So a buffer of 74,973,109 bytes suffices for every trace, and one of 1,145,069
-- for every part of 1,000 rows.
use Rattle.std.specs.Prelude.{if◌then◌else◌}
use Prim.Native.Nat.{ℕ, zero, suc, ◌+◌, ◌*◌, ◌<◌, ◌≤◌}
use native.Mathlib.Omega.{arith}
use native.Mathlib.Nat.{suc-mul}
use mathlib.Core.Path.{◌≡◌, ◌∙◌}
use mathlib.Core.Bool.{Bool, true, false}
use mathlib.Core.Logic.{◌⊎◌, inl, inr}
use mathlib.Core.List.{List, [], ◌∷◌}
use lib.Dec.{eqb}
use lib.ListN.{length, get_or, length-append}
use Rattle.basics.specs.Words.{listed}
use Rattle.basics.proofs.Bools.{never, below?}
use Rattle.basics.proofs.Counts.{count_small}
use Rattle.alf.specs.Names.{names_in, is_name, name_at}
use Rattle.alf.specs.Values.{row_of}
use Rattle.alf.specs.Traces.{changed, change_count}
use Rattle.names.proofs.Names.{name_long}
use Rattle.trace_format.specs.Format.{Trace}
use Rattle.basics.specs.Text.{bytes, joined}
use Rattle.figures.specs.Numbers.{decimal}
use Rattle.figures.proofs.Digits.{width_most, decimal_length}
use Rattle.row_lines.specs.Lines.{member, members, letters, row_line, row_lines}
use Rattle.activity.specs.Activity.{head_line, opening, part_text, activity_text}
use Rattle.row_lines.proofs.RowParts.{letters_length, line_length}

name_few : (s : List ℕ) → is_name s ≡ true → length s ≤ 32
name_few s e = go (below? 32 (length s))
  where
    go : (32 < length s) ⊎ (length s ≤ 32) → length s ≤ 32
    go (inl h) = never (name_long s h ∙ e)
    go (inr h) = h

-- parts of at most so many bytes each
parts_few : (f : ℕ → List ℕ) (most a n : ℕ) → ((i : ℕ) → i < a + n → length (f i) ≤ most)
    → length (joined (listed a n f)) ≤ n * most
unfolding joined listed
parts_few f most a zero h = omega arith
parts_few f most a (suc n) h =
    let e = parts_few f most (a + 1) n (λ i k. h i (omega arith)) in
    omega (arith, e, h a (omega arith), length-append (f a) (joined (listed (a + 1) n f)), suc-mul n most)

member_few : (names : List ℕ) (set : ℕ → Bool) (i : ℕ) → length (name_at names i) ≤ 32
    → length (member names set i) ≤ 33
unfolding member
member_few names set i h = go (set i)
  where
    go : (b : Bool) → length (if b then 32 ∷ name_at names i else []) ≤ 33
    go true = omega arith
    go false = omega arith

module _ {names times states : List ℕ} {n : ℕ} (t : Trace names times states n) where
  members_few : (set : ℕ → Bool) → length (members names (names_in names) set) ≤ names_in names * 33
  unfolding members
  members_few set =
      parts_few (member names set) 33 0 (names_in names)
      (λ i h. member_few names set i (name_few (name_at names i) (t.good i (omega arith)).named))

  head_few : length (head_line names (names_in names)) ≤ 1069
  unfolding head_line joined bytes
  head_few =
      omega (
        arith,
        members_few (λ i. true),
        t.slots.few,
        length-append (members names (names_in names) (λ i. true)) (bytes " changed\n"),
      )

  row_few : (r : ℕ) → length (row_line names (names_in names) states (get_or times r 0) r) ≤ 1144
  unfolding row_line joined change_count
  row_few r =
      let k = names_in names in
      omega (
        arith,
        line_length (decimal (get_or times r 0)) (letters k (row_of k states r)) (decimal (change_count k states r))
            (members names k (changed k states r)),
        letters_length k (row_of k states r),
        decimal_length (get_or times r 0),
        width_most 19 (get_or times r 0) (omega (arith, t.words r)) (omega (arith, t.words r)),
        decimal_length (change_count k states r),
        width_most 1 (change_count k states r)
            (omega (arith, count_small k (changed k states r), t.slots.few))
            (omega (arith, count_small k (changed k states r), t.slots.few)),
        members_few (changed k states r),
        t.slots.few,
      )

  pub activity_fits : length (activity_text names times states n) ≤ 74973109
  unfolding activity_text row_lines
  activity_fits =
      omega (
        arith,
        length-append (head_line names (names_in names)) (row_lines names (names_in names) times states 0 n),
        head_few,
        parts_few (λ r. row_line names (names_in names) states (get_or times r 0) r) 1144 0 n (λ r h. row_few r),
        t.lists.few,
      )

  opening_few : (first : ℕ) → length (opening names (names_in names) first) ≤ 1069
  unfolding opening
  opening_few first = go (eqb first 0)
    where
      go : (b : Bool) → length (if b then head_line names (names_in names) else []) ≤ 1069
      go true = head_few
      go false = omega arith

  pub part_fits : (first many : ℕ)
      → length (part_text names (names_in names) times states first many) ≤ 1069 + many * 1144
  unfolding part_text row_lines
  part_fits first many =
      omega (
        arith,
        length-append (opening names (names_in names) first) (row_lines names (names_in names) times states first many),
        opening_few first,
        parts_few (λ r. row_line names (names_in names) states (get_or times r 0) r) 1144 first many (λ r h. row_few r),
      )
