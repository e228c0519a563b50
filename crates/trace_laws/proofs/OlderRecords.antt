-- The record of a file without `RL` before it, as the older release read it and as it is read now.
--   mark_older, mark_long   two bytes as a mark: the same but for `RL`, which the older release does not know
--   Short                   the first rows are marked `RW`
--   place_older, time_older, codes_older   then the record starts at the same place, and holds the same
--   order_older             and is checked in the same way
use Rattle.std.specs.Prelude.{if◌then◌else◌}
use mathlib.Core.Path.{◌≡◌, refl, sym, ap, ◌∙◌}
use mathlib.Core.Bool.{Bool, true, false, ◌&&◌}
use mathlib.Core.List.{List}
use mathlib.Core.Logic.{⊎_elim}
use Prim.Native.Nat.{ℕ, zero, suc, ◌+◌, ◌-◌, ◌<◌}
use native.Mathlib.Nat.{zero-mul, add-zero, add-mul, one-mul}
use native.Mathlib.Numerals.{add-one}
use native.Mathlib.Omega.{arith}
use lib.Dec.{eqb}
use Rattle.trace_format.specs.declared.Mark.{Mark}
use Rattle.trace_format.specs.declared.Mark.TheVariants.{Name, Row, End, Other}
use Rattle.trace_format.specs.Records.{mark_of, number_at, time_bytes, place, mark_here, width_in, time_in, codes_in}
use Rattle.trace_format.specs.Records.{size_of, contents, record_order}
use Rattle.trace_format.proofs.MarkBytes.{row_kind, marks_row}
use Rattle.trace_format.proofs.Numbers.{number_four}
use Rattle.trace_laws.specs.Older as Older

pick : Bool → Bool → Bool → Bool → Mark
pick n s l e = if n then Name else if s then Row 4 else if l then Row 8 else if e then End else Other

older_pick : Bool → Bool → Bool → Mark
older_pick n s e = if n then Name else if s then Row 4 else if e then End else Other

picked : (n s l e : Bool) → (pick n s l e ≡ Row 8 → ⊥) → older_pick n s e ≡ pick n s l e
unfolding pick older_pick
picked true s l e h = refl
picked false true l e h = refl
picked false false true e h = absurd (h refl)
picked false false false e h = refl

module _ (a b : ℕ) where
  pub mark_older : (mark_of a b ≡ Row 8 → ⊥) → Older.mark_of a b ≡ mark_of a b
  unfolding mark_of Older.mark_of pick older_pick
  mark_older h =
      picked (eqb a 78 && eqb b 77) (eqb a 82 && eqb b 87) (eqb a 82 && eqb b 76) (eqb a 69 && eqb b 78) h

  pub mark_long : mark_of a b ≡ Row 8 → Older.mark_of a b ≡ Other
  unfolding Older.mark_of Rattle.trace_format.specs.Format.row_letter
  mark_long e = let m = marks_row a b e in rw (m.0, m.1)

  -- what the older release knows is known
  pub mark_known : {m : Mark} → Older.mark_of a b ≡ m → (m ≡ Other → ⊥) → mark_of a b ≡ m
  mark_known {m} e n = go (mark_of a b) refl
    where
      same : (mark_of a b ≡ Row 8 → ⊥) → mark_of a b ≡ m
      same h = sym (mark_older h) ∙ e

      go : (x : Mark) → mark_of a b ≡ x → mark_of a b ≡ m
      go Name f = same (λ g. let u : Name ≡ Row 8 = sym f ∙ g in let z : ◌≡◌ {A = ℕ} 0 1 = cc in omega arith)
      go (Row w) f =
          ⊎_elim
          (λ (g : w ≡ 4).
          same (λ h. let u : Row w ≡ Row 8 = sym f ∙ h in let z : w ≡ 8 = cc in omega arith))
          (λ (g : w ≡ 8). absurd (n (sym e ∙ mark_long (f ∙ ap Row g)))) (row_kind a b f)
      go End f = same (λ g. let u : End ≡ Row 8 = sym f ∙ g in let z : ◌≡◌ {A = ℕ} 0 1 = cc in omega arith)
      go Other f = same (λ g. let u : Other ≡ Row 8 = sym f ∙ g in let z : ◌≡◌ {A = ℕ} 0 1 = cc in omega arith)

-- the first r rows are marked `RW`
abbrev pub Short : List ℕ → ℕ → ℕ → Type 0
Short file k r = (i : ℕ) → i < r → width_in file k i ≡ 4

module _ (file : List ℕ) (k : ℕ) where
  pub place_older : (r : ℕ) → Short file k r → Older.place file k r ≡ place file k r
  unfolding Older.place place
  place_older zero s = rw (zero-mul, add-zero)
  place_older (suc r) s =
      let e : Older.place file k r ≡ place file k r = place_older r (λ i h. s i (omega arith)) in
      let w : width_in file k r ≡ 4 = s r (omega arith) in
      rw (w, ← e, ← add-one r, add-mul r 1 (6 + k), one-mul) (omega arith)

  word_older : (p : ℕ) → Older.word_at file p ≡ number_at 4 file p
  unfolding Older.word_at
  word_older p = sym (number_four file p)

  pub time_older : (r : ℕ) → Short file k r → width_in file k r ≡ 4 → Older.time_in file k r ≡ time_in file k r
  unfolding Older.time_in time_in
  time_older r s w = rw (place_older r s, w) (word_older (place file k r + 2))

  pub codes_older : (r : ℕ) → Short file k r → width_in file k r ≡ 4 → Older.codes_in file k r ≡ codes_in file k r
  unfolding Older.codes_in codes_in
  codes_older r s w =
      let e : place file k r + 2 + 4 ≡ place file k r + 6 = omega arith in
      rw (place_older r s, w, e)

  -- the time before
  last_older : (r : ℕ) → Short file k r → width_in file k r ≡ 4
      → Older.time_in file k (r - 1) ≡ time_in file k (r - 1)
  last_older zero s w = time_older zero s w
  last_older (suc r) s w =
      let e : suc r - 1 ≡ r = omega arith in
      rw e (time_older r (λ i h. s i (omega arith)) (s r (omega arith)))

  -- the record behind the first r rows, of a mark that the older release knows
  module _ (r : ℕ) (s : Short file k r) where
    size_older : (m : Mark) → (w : width_in file k r ≡ time_bytes m) → (m ≡ Row 8 → ⊥) → mark_here file k r ≡ m
        → Older.size_of file k r m ≡ size_of file k r m
    unfolding Older.size_of size_of time_bytes
    size_older Name w n e = rw (place_older r s)
    size_older (Row x) w n e =
        ⊎_elim (λ (h : x ≡ 4). rw h (omega arith)) (λ (h : x ≡ 8). absurd (n (ap Row h))) (row_kind _ _ e)
    size_older End w n e = refl
    size_older Other w n e = refl

    contents_older : (m : Mark) → (w : width_in file k r ≡ time_bytes m) → (m ≡ Row 8 → ⊥) → mark_here file k r ≡ m
        → Older.contents file k r m ≡ contents file k r m
    unfolding Older.contents contents time_bytes
    contents_older Name w n e = rw (place_older r s)
    contents_older (Row x) w n e =
        ⊎_elim (λ (h : x ≡ 4). four (w ∙ h)) (λ (h : x ≡ 8). absurd (n (ap Row h))) (row_kind _ _ e)
      where
        four : width_in file k r ≡ 4 → Older.contents file k r (Row x) ≡ contents file k r (Row x)
        four h =
            let p : place file k r + 6 ≡ place file k r + 2 + width_in file k r = omega arith in
            rw (time_older r s h, last_older r s h, place_older r s, p)
    contents_older End w n e = rw (place_older r s, word_older (place file k r + 2))
    contents_older Other w n e = refl

    pub here_older : (mark_here file k r ≡ Row 8 → ⊥) → Older.mark_here file k r ≡ mark_here file k r
    here_older n = rw (place_older r s) (mark_older _ _ n)

    pub order_older : (mark_here file k r ≡ Row 8 → ⊥) → Older.record_order file k r ≡ record_order file k r
    order_older n =
        let m : Older.mark_here file k r ≡ mark_here file k r = here_older n in
        rw (
          m,
          size_older (mark_here file k r) refl n refl,
          contents_older (mark_here file k r) refl n refl,
          place_older r s,
        )
