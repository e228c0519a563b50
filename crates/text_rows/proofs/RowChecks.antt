-- The checks of a row, one after the other.
--   timed                                          the time that is found is the row's
--   time_late, time_none, time_early, time_good                 what its time comes to
--   rest_refused, rest_passed, rest_more, rest_end              what stands behind it
use Rattle.std.specs.Prelude.{Err, Ok, Option, Some, None}
use Prim.Native.Nat.{ℕ, ◌+◌, ◌-◌, ◌<◌, ◌≤◌}
use native.Mathlib.Omega.{arith}
use mathlib.Core.Path.{◌≡◌, refl, sym, ap, ◌∙◌}
use mathlib.Core.Bool.{Bool, true, false}
use mathlib.Core.Logic.{inl, inr}
use mathlib.Core.List.{List, [], ◌∷◌}
use lib.ListN.{length, get_or, take, drop}
use Rattle.basics.specs.declared.Refusal.{Refusal}
use Rattle.basics.specs.Refusing.{Outcome}
use Rattle.basics.proofs.Bools.{never}
use Rattle.alf.specs.Refusals.{Order, check, At, RefusedWith, Passed, Comes}
use Rattle.alf.proofs.Orders.{Is, plainly, by_first, refused_then, passed_both}
use Rattle.trace_texts.specs.Words.{Word, Line, word}
use Rattle.trace_texts.specs.Texts.{none, is_time, time_of_lem, state_word, states_order}
use Rattle.trace_texts.specs.Finding.{from, Finds}
use Rattle.trace_texts.proofs.WordOf.{word_of, no_word}
use Rattle.trace_texts.proofs.OnAndOn.{has_word}
use Rattle.text_checks.specs.Inner.{ReadsTime}
use Rattle.text_rows.specs.Rows.{TimeIn, TimedAt, early, time_order, rest_order}

pub timed : {text : List ℕ} {p s e : ℕ} (t : Option ℕ) → TimeIn text p → Finds text p 0 s e
    → ReadsTime (take (e - s) (drop s text)) t → TimedAt (from text p).first s t
timed {text} {p} {s} {e} t g f r =
    let first : get_or (from text p).first.words 0 none ≡ word s (take (e - s) (drop s text)) =
    (word_of f (has_word f g.some)).1 in
    record { place = sym (ap (λ (w : Word). w.at) first); reads = rw first r }

-- row r, whose time is found
module _ (r last : ℕ) {row : Line} {at : ℕ} {o : Option ℕ} (g : TimedAt row at o) where
  pub time_late : {o : Outcome} (made : ℕ → Type 0) → 65535 ≤ r → Is o 11 at
      → Comes (time_order r (early r last row) row) made o
  unfolding Comes RefusedWith
  time_late made h is = rw is (plainly _ 11 at (inl (refl, record { given = h; there = g.place })))

  module _ (few : r < 65535) where
    pub time_none : {x : Outcome} (made : ℕ → Type 0) → o ≡ None → Is x 11 at
        → Comes (time_order r (early r last row) row) made x
    unfolding Comes RefusedWith ReadsTime
    time_none made h is =
        rw is
        (plainly _ 11 at
        (inr (
          (λ q a. omega (arith, a.given, few)),
          inl (refl, record { given = rw h at g.reads; there = g.place }),
        )))

    module _ {t : ℕ} (there : o ≡ Some t) where
      read : (is_time (get_or row.words 0 none).bytes ≡ true) × (t ≡ time_of_lem row)
      unfolding ReadsTime
      read = rw there at g.reads

      no_word_time : (q : ℕ) → At (get_or row.words 0 none).at (is_time (get_or row.words 0 none).bytes ≡ false) q
          → ⊥
      no_word_time q a = never (sym a.given ∙ read.0)

      pub time_early : {x : Outcome} (made : ℕ → Type 0) → 0 < r → t ≤ last → Is x 13 at
          → Comes (time_order r (early r last row) row) made x
      unfolding Comes RefusedWith
      time_early made n h is =
          rw is
          (plainly _ 13 at
          (inr (
            (λ q a. omega (arith, a.given, few)),
            inr (
              no_word_time,
              inl (refl, record { given = (n, omega (arith, h, read.1)); there = g.place }),
            ),
          )))

      pub time_good : (0 < r → last < t)
          → Comes (time_order r (early r last row) row) (λ m. m ≡ time_of_lem row) (Ok t)
      unfolding Comes Passed
      time_good n = (
        (
          (λ q a. omega (arith, a.given, few)),
          (no_word_time, ((λ q a. omega (arith, a.given.1, n a.given.0, read.1)), tt)),
        ),
        read.1,
      )

-- behind the time
abbrev last_order : ℕ → Bool → Line → Order
last_order k passed row = check 11 (At (state_word row k).at ((passed ≡ false) × (k + 1 < length row.words))) ∷ []

module _ (text : List ℕ) (p k : ℕ) (passed : Bool) where
  pub rest_refused : (made : ℕ → Type 0) (r : Refusal)
      → Comes (states_order (from text p).first k) (λ m. m ≡ k) (Err r)
      → Comes (rest_order k passed (from text p).first) made (Err r)
  unfolding Comes
  rest_refused made r states = by_first _ _ states

  module _ (passed_states : Passed (states_order (from text p).first k)) where
    behind : Passed (last_order k passed (from text p).first)
        → Comes (rest_order k passed (from text p).first) (λ n. n ≡ k) (Ok k)
    unfolding Comes
    behind q = (passed_both (states_order (from text p).first k) _ passed_states q, refl)

    pub rest_passed : passed ≡ true → Comes (rest_order k passed (from text p).first) (λ n. n ≡ k) (Ok k)
    unfolding Passed
    rest_passed t = behind ((λ q a. never (sym a.given.0 ∙ t)), tt)

    module _ {s e : ℕ} (g : Finds text p (k + 1) s e) where
      pub rest_more : {o : Outcome} (made : ℕ → Type 0) → passed ≡ false → s < e → Is o 11 s
          → Comes (rest_order k passed (from text p).first) made o
      unfolding Comes RefusedWith
      rest_more made f l is =
          let w = word_of g l in
          rw is
          (plainly _ 11 s
          (refused_then (states_order (from text p).first k) _ 11 s passed_states
          (inl (refl, record { given = (f, w.0); there = sym (ap (λ (v : Word). v.at) w.1) }))))

      pub rest_end : e ≤ s → Comes (rest_order k passed (from text p).first) (λ n. n ≡ k) (Ok k)
      unfolding Passed
      rest_end l = behind ((λ q a. omega (arith, a.given.1, (no_word g l).0)), tt)
