-- Where a match began (document 02, [12]).
--   FirstYes                     "the first alternative in order that answers yes" at row i
--   first_window                 it answers yes on the window from row i - k to row i, k its steps
--   began_first                  the match began at that row's time
--   search_yes                   a list has a first yes, or none, and then no time is given
--   first_tried                  it is the alternative whose position is the number tried
--   began_tries, began_none      so a yes has the time of row i - k, k its steps; any other answer has none
--   began_answers                the window from there to row i answers yes for the expression as written
use Rattle.std.specs.Prelude.{None, Some}
use mathlib.Core.Path.{◌≡◌, refl, sym, ◌∙◌}
use mathlib.Core.List.{List, [], ◌∷◌, map}
use mathlib.Core.Logic.{◌⊎◌, inl, inr}
use Prim.Native.Nat.{ℕ, zero, suc, ◌+◌, ◌-◌, ◌<◌, ◌≤◌}
use native.Mathlib.Omega.{arith}
use lib.ListN.{length, get_or}
use borrow.Author.Tests.{eq-eqb, ne_eqb}
use Rattle.alf.specs.Beginnings.{Began}
use Rattle.basics.specs.Words.{greatest_of}
use Rattle.alf.specs.Expressions.{Boolean, Vector}
use Rattle.alf.specs.Windows.{YES, numbered, answer}
use Rattle.alf.specs.Alternatives.{Alternative, alternatives, on_window, at_row, best_of, answer_of, tried, tries}
use Rattle.alf.specs.Beginnings.{began_in, began}
use Rattle.basics.proofs.Bools.{below?}
use Rattle.alf.proofs.Lifting.{win_on}
use Rattle.alf.proofs.WindowsAreAlternatives.{window_alternatives}
use Rattle.alf.proofs.WindowBounds.{answer_small}
use Rattle.alf.proofs.RowsAreAlternatives.{row_on, row_off, row_small}

-- the time of a row
abbrev pub since : List ℕ → ℕ → Began
since times r = Some (record { 0 = get_or times r 0 })

module _ (st : Boolean → ℕ → ℕ) (i : ℕ) where
  -- x is the first alternative in order that answers yes at row i
  pub data FirstYes : List Alternative → Alternative → Type 0 where
    here : {x : Alternative} {xs : List Alternative} → at_row st i x ≡ YES → FirstYes (x ∷ xs) x
    later : {x y : Alternative} {xs : List Alternative} → (at_row st i x ≡ YES → ⊥) → FirstYes xs y
        → FirstYes (x ∷ xs) y

  fits : (x : Alternative) → at_row st i x ≡ YES → length x ≤ i
  fits x e = go (below? i (length x))
    where
      go : (i < length x) ⊎ (length x ≤ i) → length x ≤ i
      go (inl l) = absurd (omega (arith, e, row_off st i x l))
      go (inr l) = l

  first_yes : {xs : List Alternative} {x : Alternative} → FirstYes xs x → at_row st i x ≡ YES
  first_yes (here e) = e
  first_yes (later n f) = first_yes f

  pub first_window : {xs : List Alternative} {x : Alternative} → FirstYes xs x
      → (length x ≤ i) × (on_window st (i - length x) i x ≡ YES)
  first_window {x = x} f =
      let e = first_yes f in
      let l = fits x e in
      (l, win_on st x (i - length x) i (omega arith) ∙ sym (row_on st i x l) ∙ e)

  -- so the greatest on that window is yes
  first_greatest : {xs : List Alternative} {x : Alternative} → FirstYes xs x
      → 2 ≤ greatest_of (on_window st (i - length x) i) xs
  unfolding greatest_of
  first_greatest (here {xs = xs} e) = let w = (first_window (here {xs = xs} e)).1 in omega arith
  first_greatest (later n f) = let w = first_greatest f in omega arith

  module _ (times : List ℕ) where
    pub began_first : {xs : List Alternative} {x : Alternative} → FirstYes xs x
        → began_in st times xs i ≡ since times (i - length x)
    unfolding began_in
    began_first (here {x = x} e) = rw (eq-eqb (at_row st i x) YES e) refl
    began_first (later {x = x} n f) = rw (ne_eqb (at_row st i x) YES n) (began_first f)

    -- a list with a yes has a first one, another has none
    abbrev pub Without : List Alternative → Type 0
    Without xs = (best_of st xs i < 2) × (began_in st times xs i ≡ None)

    pub search_yes : (xs : List Alternative) → ((x : Alternative) × FirstYes xs x) ⊎ Without xs
    unfolding best_of greatest_of began_in
    search_yes [] = inr (omega arith, refl)
    search_yes (x ∷ xs) = go (below? (at_row st i x) 2) (search_yes xs)
      where
        go : (at_row st i x < 2) ⊎ (2 ≤ at_row st i x) → ((y : Alternative) × FirstYes xs y) ⊎ Without xs
            → ((y : Alternative) × FirstYes (x ∷ xs) y) ⊎ Without (x ∷ xs)
        go (inr l) r = let s = row_small st i x in inl (x, here {x = x} (omega arith))
        go (inl l) (inl f) = inl (f.0, later {x = x} (λ e. omega arith) f.1)
        go (inl l) (inr b) =
            let c = b.0 in inr (omega arith, rw (ne_eqb (at_row st i x) YES (λ e. omega arith)) b.1)

  -- the alternative tried last is the first with a yes
  first_best : {xs : List Alternative} {x : Alternative} → FirstYes xs x → 2 ≤ best_of st xs i
  unfolding best_of greatest_of
  first_best (here e) = omega arith
  first_best (later n f) = let b = first_best f in omega arith

  pub first_tried : {xs : List Alternative} {x : Alternative} → FirstYes xs x
      → (0 < tried (map (at_row st i) xs)) × (tried (map (at_row st i) xs) ≤ length xs)
      × (get_or xs (tried (map (at_row st i) xs) - 1) [] ≡ x)
  unfolding tried
  first_tried (here {x = x} e) = rw (eq-eqb (at_row st i x) YES e) (omega arith, omega arith, refl)
  first_tried (later {x = x} {xs = xs} n f) =
      let b = first_tried f in
      rw (ne_eqb (at_row st i x) YES n) (omega arith, omega (arith, b.1), step _ b.0 ∙ b.2)
    where
      step : (t : ℕ) → 0 < t → get_or (x ∷ xs) (1 + t - 1) [] ≡ get_or xs (t - 1) []
      step zero l = absurd (omega arith)
      step (suc t) l =
          let d : 1 + suc t - 1 ≡ suc t = omega arith in
          let e : suc t - 1 ≡ t = omega arith in
          rw (d, e) refl

-- a rank is yes exactly if its number is 1
number_yes : (r : ℕ) → 2 ≤ r → numbered r ≡ 1
unfolding numbered
number_yes zero l = absurd (omega arith)
number_yes (suc zero) l = absurd (omega arith)
number_yes (suc (suc r)) l = refl

yes_number : (r : ℕ) → numbered r ≡ 1 → 2 ≤ r
unfolding numbered
yes_number zero e = absurd (omega arith)
yes_number (suc zero) e = absurd (omega arith)
yes_number (suc (suc r)) e = omega arith

module _ (st : Boolean → ℕ → ℕ) (times : List ℕ) (xs : List Alternative) where
  -- k: the steps of the alternative whose position is the number tried
  abbrev pub took_steps : ℕ → ℕ
  took_steps i = length (get_or xs (tries st xs i - 1) [])

  -- what a yes has: an alternative at that position, with no more steps than there are rows before
  pub record Took (i : ℕ) : Type 0 where
    pub some : 0 < tries st xs i
    pub there : tries st xs i ≤ length xs
    pub room : took_steps i ≤ i
    pub time : began st times xs i ≡ since times (i - took_steps i)
    pub window : 2 ≤ greatest_of (on_window st (i - took_steps i) i) xs

  pub began_tries : (i : ℕ) → answer_of st xs i ≡ 1 → Took i
  unfolding answer_of began tries
  began_tries zero e = absurd (omega arith)
  began_tries (suc i) e = go (search_yes st (suc i) times xs)
    where
      go : ((x : Alternative) × FirstYes st (suc i) xs x) ⊎ Without st (suc i) times xs → Took (suc i)
      go (inl f) =
          let (s, l, g) = first_tried st (suc i) f.1 in
          record {
            some = s;
            there = l;
            room = rw g (first_window st (suc i) f.1).0;
            time = began_first st (suc i) times f.1 ∙ rw g refl;
            window = rw g (first_greatest st (suc i) f.1);
          }
      go (inr b) = let l = yes_number _ e in let m = b.0 in absurd (omega arith)

  -- "No time is given with no, unknown or row 0"
  pub began_none : (i : ℕ) → (answer_of st xs i ≡ 1 → ⊥) → began st times xs i ≡ None
  unfolding answer_of began
  began_none zero n = refl
  began_none (suc i) n = go (search_yes st (suc i) times xs)
    where
      go : ((x : Alternative) × FirstYes st (suc i) xs x) ⊎ Without st (suc i) times xs
          → began_in st times xs (suc i) ≡ None
      go (inl f) = absurd (n (number_yes _ (first_best st (suc i) f.1)))
      go (inr b) = b.1

-- the window from there to row i answers yes for the expression as written
pub began_answers : (st : Boolean → ℕ → ℕ) (p : Vector) (i : ℕ) → answer_of st (alternatives p) i ≡ 1
    → answer st p (i - took_steps st [] (alternatives p) i) i ≡ YES
began_answers st p i e =
    let a = i - took_steps st [] (alternatives p) i in
    let w = (began_tries st [] (alternatives p) i e).window in
    omega (arith, w, window_alternatives st p a i, answer_small st p a i)
