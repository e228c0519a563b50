-- What a line tells behind the time, by the kind of the column and by the number.
--   answer_known and its like, value_known and its like    what a column tells, by its kind
use Prim.Native.Nat.{ℕ, ◌<◌, ◌≤◌}
use native.Mathlib.Omega.{arith}
use mathlib.Core.Path.{◌≡◌, refl}
use mathlib.Core.List.{List, [], ◌∷◌}
use lib.ListN.{length}
use Rattle.basics.specs.Memory.{Put}
use Rattle.listing.specs.declared.lines.Column.{Column}
use Rattle.listing.specs.declared.lines.Column.TheVariants.{Answers, Values}
use Rattle.listing.specs.Listing.{word, letter, word_of, highest}
use Rattle.listing.specs.Inner.{Sized, Wording}

-- what a column tells, by its kind
module _ {column : Column} (a : ℕ) (e : column ≡ Answers) where
  pub answer_known : a ≤ highest column → a ≤ 3
  unfolding highest
  answer_known h = rw e at h

  pub answer_sized : {r : ℕ} → Sized (word a) 7 r → Sized (word_of column a) 7 r
  unfolding word_of
  answer_sized h = rw e h

  pub answer_wording : {out : List ℕ} {at : ℕ} → Wording (highest column) a out at (word_of column a)
      → Wording 3 a out at (word a)
  unfolding highest word_of
  answer_wording h = rw e at h

  pub answer_put : {out out' : List ℕ} {at r : ℕ} → Put out at (word a) out' r
      → Put out at (word_of column a) out' r
  unfolding word_of
  answer_put h = rw e h

module _ {column : Column} (a : ℕ) (e : column ≡ Values) where
  pub value_sized : Sized (word_of column a) 7 1
  unfolding word_of
  value_sized = rw e (record { is = refl; few = omega arith })

  pub value_known : {out w : List ℕ} {at : ℕ} → Wording (highest column) a out at w → a ≤ 7
  unfolding highest
  value_known h = rw e at h.known

  pub value_room : {most : ℕ} {out : List ℕ} {at : ℕ} → Wording most a out at (word_of column a)
      → at < length out
  unfolding word_of
  value_room h = let r = rw e at h.room in omega arith

  pub value_put : {b : ℕ} {out out' : List ℕ} {at r : ℕ} → b ≡ letter a → Put out at (b ∷ []) out' r
      → Put out at (word_of column a) out' r
  unfolding word_of
  value_put l h = rw (e, ← l) h
