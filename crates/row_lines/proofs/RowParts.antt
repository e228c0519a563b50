-- A row's line in its parts: how long it is, and how it is written.
--   letter_put, letters_length       a state's letter, and those of a row
--   row_sized, row_start             the length of a row's line; its parts, of which none is written yet
--   row_in                           a row of a part
use Prim.Native.Nat.{ℕ, zero, suc, ◌+◌, ◌*◌, ◌<◌, ◌≤◌}
use native.Mathlib.Omega.{arith}
use mathlib.Core.Path.{◌≡◌, refl, ap}
use mathlib.Core.List.{List, [], ◌∷◌, ◌++◌}
use lib.ListN.{length, length-append}
use Rattle.basics.specs.Words.{listed}
use Rattle.basics.specs.Memory.{Put, Room}
use Rattle.basics.proofs.PartByPart.{flat, Going, put_then, going_start}
use Rattle.alf.specs.Values.{row_of}
use Rattle.changes.specs.Call.{RowSet}
use Rattle.basics.specs.Text.{bytes, joined}
use Rattle.figures.specs.Numbers.{decimal}
use Rattle.figures.specs.Inner.{Wide}
use Rattle.figures.proofs.Digits.{decimal_length}
use Rattle.listing.specs.Listing.{letter}
use Rattle.listing.specs.Inner.{Sized}
use Rattle.row_lines.specs.Lines.{letters, members, row_line}
use Rattle.trace_format.proofs.RowByRow.{room_for}
use Rattle.row_lines.specs.Inner.{marked, RowIn, PartGood}
use Rattle.row_lines.proofs.NameSets.{members_changed}

pub letter_put : (code : ℕ) {b : ℕ} {out out₁ out₂ : List ℕ} {at p q : ℕ} → b ≡ letter code
    → Put out at (32 ∷ []) out₁ p
    → Put out₁ p (b ∷ []) out₂ q → Put out at (32 ∷ letter code ∷ []) out₂ q
letter_put code e x y = put_then x (rw e at y)

pairs_length : (row : ℕ → ℕ) (a k : ℕ) → length (joined (listed a k (λ i. 32 ∷ letter (row i) ∷ []))) ≡ 2 * k
unfolding joined listed
pairs_length row a zero = refl
pairs_length row a (suc k) = let e = pairs_length row (a + 1) k in omega arith

pub letters_length : (k : ℕ) (row : ℕ → ℕ) → length (letters k row) ≡ 2 * k
unfolding letters
letters_length k row = pairs_length row 0 k

pub line_length : (a b c d : List ℕ)
    → length (flat (a ∷ b ∷ bytes " " ∷ c ∷ d ∷ bytes "\n" ∷ [])) ≡ length a + length b + length c + length d + 2
unfolding bytes
line_length a b c d =
    omega (
      arith,
      length-append a (b ++ (32 ∷ (c ++ (d ++ (10 ∷ []))))),
      length-append b (32 ∷ (c ++ (d ++ (10 ∷ [])))),
      length-append c (d ++ (10 ∷ [])),
      length-append d (10 ∷ []),
    )

-- a row whose changes are known as a mask and a number
module _ (names : List ℕ) {k : ℕ} {states : List ℕ} (time : ℕ) {r set many : ℕ} (s : RowSet k states r set many) where
  abbrev pub row_parts : List (List ℕ)
  row_parts =
      decimal time ∷ letters k (row_of k states r) ∷ bytes " " ∷ decimal many ∷ members names k (marked set)
      ∷ bytes "\n" ∷ []

  row_parts_lem : row_line names k states time r ≡ flat row_parts
  unfolding row_line joined
  row_parts_lem = rw (s.number, members_changed names k states r s.changed) refl

  pub row_sized : {a b m : ℕ} → k ≤ 32 → Wide time a → Wide many b → Sized (members names k (marked set)) (k * 33) m
      → Sized (row_line names k states time r) 1162 (a + 2 * k + b + m + 2)
  row_sized h t c w =
      record {
        is =
            omega (
              arith,
              ap length row_parts_lem,
              line_length (decimal time) (letters k (row_of k states r)) (decimal many) (members names k (marked set)),
              letters_length k (row_of k states r),
              decimal_length time,
              decimal_length many,
              t.is,
              c.is,
              w.is,
            );
        few = omega (arith, h, t.few, c.few, w.few);
      }

  pub row_start : {out : List ℕ} {at : ℕ} → Room out at (row_line names k states time r)
      → Going out at (row_line names k states time r) row_parts out at
  row_start room = going_start row_parts row_parts_lem room

-- a row of a part
pub row_in : {names : List ℕ} {k : ℕ} {times states : List ℕ} {first many r : ℕ}
    → PartGood names k times states first many → r < many → RowIn names k states (first + r)
row_in {k = k} {first = first} {many = many} {r = r} g h =
    let inside : first + r < first + many = omega arith in
    record {
      slots = g.slots;
      inside =
          record {
            name_count_lem = (g.some, g.slots.few);
            few = omega (arith, g.few);
            room = omega (arith, room_for (first + r) (first + many) k inside, g.rows.states_all);
          };
    }
