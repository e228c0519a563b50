-- The activity listing of a trace in words: its lines, and that it is spelt by them.
--   picked, head_words, state_words, row_words    the names of a set, the words of the head and of a row's line
--   listing_spelt                              the listing of a trace is the text of these lines
use Rattle.std.specs.Prelude.{if◌then◌else◌}
use Prim.Native.Nat.{ℕ, zero, suc, ◌+◌, ◌*◌, ◌<◌, ◌≤◌}
use native.Mathlib.Omega.{arith}
use mathlib.Core.Path.{◌≡◌, refl, sym, ap, ◌∙◌}
use mathlib.Core.Bool.{Bool, true, false}
use mathlib.Core.List.{List, [], ◌∷◌, ◌++◌, append_assoc}
use lib.ListN.{get_or}
use Rattle.basics.specs.Words.{All, all, listed}
use Rattle.basics.specs.Text.{bytes, joined}
use Rattle.alf.specs.Names.{names_in, name_at, is_decimal, starts_name, goes_on_name, is_name, is_letter}
use Rattle.alf.specs.Traces.{changed, change_count}
use Rattle.alf.specs.Values.{row_of}
use Rattle.figures.specs.Numbers.{decimal}
use Rattle.listing.specs.Listing.{letter}
use Rattle.trace_format.specs.Format.{Trace}
use Rattle.trace_format.proofs.RowByRow.{room_for}
use Rattle.row_lines.specs.Lines.{member, members, letters, row_line, row_lines}
use Rattle.activity.specs.Activity.{head_line, activity_text}
use Rattle.trace_texts.proofs.Splitting.{Dense, trail, Spelt}
use Rattle.trace_text_laws.proofs.WordBytes.{name_dense, letter_dense, decimal_dense, decimal_digits, no_comment}

-- words behind words
trail_both : (a b : List (List ℕ)) → trail (a ++ b) ≡ trail a ++ trail b
unfolding trail
trail_both [] b = refl
trail_both (w ∷ a) b =
    ap (λ (l : List ℕ). 32 ∷ (w ++ l)) (trail_both a b) ∙ ap (λ (l : List ℕ). 32 ∷ l) (sym (append_assoc w _ _))

all_both : {A : Type 0} {P : A → Type 0} {a b : List A} → All P a → All P b → All P (a ++ b)
all_both All.none y = y
all_both (All.more p x) y = All.more p (all_both x y)

all_listed : {A : Type 0} {P : A → Type 0} (a k : ℕ) (f : ℕ → A) → ((i : ℕ) → a ≤ i → i < a + k → P (f i))
    → All P (listed a k f)
unfolding listed
all_listed a zero f h = All.none
all_listed a (suc k) f h =
    All.more (h a (omega arith) (omega arith)) (all_listed (a + 1) k f (λ i l m. h i (omega arith) (omega arith)))

-- the names of a set, in words
unfoldable pub picked : List ℕ → (ℕ → Bool) → ℕ → ℕ → List (List ℕ)
picked names set a zero = []
picked names set a (suc k) = if set a then name_at names a ∷ picked names set (a + 1) k else picked names set (a + 1) k

picked_trail : (names : List ℕ) (set : ℕ → Bool) (a k : ℕ)
    → joined (listed a k (member names set)) ≡ trail (picked names set a k)
unfolding joined listed member picked trail
picked_trail names set a zero = refl
picked_trail names set a (suc k) = go (set a) (picked_trail names set (a + 1) k)
  where
    go : (b : Bool) → joined (listed (a + 1) k (member names set)) ≡ trail (picked names set (a + 1) k)
        → (if b then 32 ∷ name_at names a else []) ++ joined (listed (a + 1) k (member names set))
        ≡ trail (if b then name_at names a ∷ picked names set (a + 1) k else picked names set (a + 1) k)
    go true e = ap (λ (l : List ℕ). 32 ∷ (name_at names a ++ l)) e
    go false e = e

picked_all : (names : List ℕ) (a k : ℕ) → picked names (λ i. true) a k ≡ listed a k (name_at names)
unfolding picked listed
picked_all names a zero = refl
picked_all names a (suc k) = ap (λ (l : List (List ℕ)). name_at names a ∷ l) (picked_all names (a + 1) k)

picked_dense : (names : List ℕ) (set : ℕ → Bool) (a k : ℕ) → ((i : ℕ) → i < a + k → Dense (name_at names i))
    → All Dense (picked names set a k)
unfolding picked
picked_dense names set a zero h = All.none
picked_dense names set a (suc k) h = go (set a) (picked_dense names set (a + 1) k (λ i l. h i (omega arith)))
  where
    go : (b : Bool) → All Dense (picked names set (a + 1) k)
        → All Dense (if b then name_at names a ∷ picked names set (a + 1) k else picked names set (a + 1) k)
    go true d = All.more (h a (omega arith)) d
    go false d = d

letters_trail : (row : ℕ → ℕ) (a k : ℕ)
    → joined (listed a k (λ i. 32 ∷ letter (row i) ∷ [])) ≡ trail (listed a k (λ i. letter (row i) ∷ []))
unfolding joined listed trail
letters_trail row a zero = refl
letters_trail row a (suc k) = ap (λ (l : List ℕ). 32 ∷ letter (row a) ∷ l) (letters_trail row (a + 1) k)

-- the words of the head and of a row's line
unfoldable pub head_words : List ℕ → ℕ → List (List ℕ)
head_words names k = bytes "time" ∷ (listed 0 k (name_at names) ++ (bytes "changed" ∷ []))

unfoldable pub state_words : ℕ → List ℕ → ℕ → List (List ℕ)
state_words k states r = listed 0 k (λ i. letter (row_of k states r i) ∷ [])

unfoldable pub row_words : List ℕ → ℕ → List ℕ → ℕ → ℕ → List (List ℕ)
row_words names k states time r =
    decimal time
    ∷ (state_words k states r ++ (decimal (change_count k states r) ∷ picked names (changed k states r) 0 k))

time_dense : Dense (bytes "time")
unfolding bytes is_name starts_name goes_on_name is_letter is_decimal all
time_dense = name_dense (bytes "time") refl

pub changed_dense : Dense (bytes "changed")
unfolding bytes is_name starts_name goes_on_name is_letter is_decimal all
changed_dense = name_dense (bytes "changed") refl

head_text : (names : List ℕ) (k : ℕ) (text : List ℕ)
    → head_line names k ++ text
    ≡ bytes "time" ++ (trail (listed 0 k (name_at names) ++ (bytes "changed" ∷ [])) ++ (10 ∷ text))
unfolding head_line members joined bytes trail
head_text names k text =
    rw (
      trail_both (listed 0 k (name_at names)) (bytes "changed" ∷ []),
      picked_trail names (λ i. true) 0 k,
      picked_all names 0 k,
    )
    (ap (λ (l : List ℕ). bytes "time" ++ l)
    (append_assoc (trail (listed 0 k (name_at names))) (bytes " changed\n") text
    ∙ sym (append_assoc (trail (listed 0 k (name_at names))) (bytes " changed") (10 ∷ text))))

regroup : (d s c m text : List ℕ)
    → (d ++ (s ++ (32 ∷ (c ++ (m ++ (10 ∷ [])))))) ++ text ≡ d ++ ((s ++ (32 ∷ (c ++ m))) ++ (10 ∷ text))
regroup d s c m text = simp append_assoc

row_text_lem : (names : List ℕ) (k : ℕ) (states : List ℕ) (time r : ℕ) (text : List ℕ)
    → row_line names k states time r ++ text
    ≡ decimal time
    ++ (trail (state_words k states r ++ (decimal (change_count k states r) ∷ picked names (changed k states r) 0 k))
    ++ (10 ∷ text))
unfolding row_line letters members joined bytes state_words trail
row_text_lem names k states time r text =
    rw (
      trail_both (listed 0 k (λ i. letter (row_of k states r i) ∷ []))
          (decimal (change_count k states r) ∷ picked names (changed k states r) 0 k),
      letters_trail (row_of k states r) 0 k,
      picked_trail names (changed k states r) 0 k,
    )
    (regroup (decimal time) (trail (listed 0 k (λ i. letter (row_of k states r i) ∷ [])))
    (decimal (change_count k states r)) (trail (picked names (changed k states r) 0 k)) text)

module _ {names times states : List ℕ} {n : ℕ} (t : Trace names times states n) where
  names_dense : (i : ℕ) → i < names_in names → Dense (name_at names i)
  names_dense i h = name_dense (name_at names i) (t.good i h).named

  pub code_small : (r i : ℕ) → r < n → i < names_in names → row_of (names_in names) states r i ≤ 7
  code_small r i h l =
      t.codes (r * names_in names + i) (omega (arith, room_for r n (names_in names) h, t.lists.states_all))

  rows_spelt : (a m : ℕ) → a + m ≤ n
      → Spelt (listed a m (λ r. row_words names (names_in names) states (get_or times r 0) r))
      (joined (listed a m (λ r. row_line names (names_in names) states (get_or times r 0) r)))
  unfolding listed joined row_words state_words
  rows_spelt a zero h = Spelt.none
  rows_spelt a (suc m) h =
      let k = names_in names in
      Spelt.more (decimal_dense (get_or times a 0)) (no_comment _ (decimal_digits (get_or times a 0)))
      (all_both
      (all_listed 0 k (λ i. letter (row_of k states a i) ∷ [])
      (λ i l j. letter_dense (row_of k states a i) (code_small a i (omega arith) (omega arith))))
      (All.more (decimal_dense (change_count k states a))
      (picked_dense names (changed k states a) 0 k (λ i l. names_dense i (omega arith)))))
      (rows_spelt (a + 1) m (omega arith))
      (row_text_lem names k states (get_or times a 0) a _)

  pub listing_spelt :
      Spelt
      (head_words names (names_in names) ∷ listed 0 n (λ r. row_words names (names_in names) states (get_or times r 0) r))
      (activity_text names times states n)
  unfolding activity_text head_words row_lines bytes
  listing_spelt =
      Spelt.more time_dense (λ e. omega (arith, e))
      (all_both (all_listed 0 (names_in names) (name_at names) (λ i l j. names_dense i (omega arith)))
      (All.more changed_dense All.none))
      (rows_spelt 0 n (omega arith)) (head_text names (names_in names) _)
