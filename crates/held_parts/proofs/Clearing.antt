-- Entries of a part that are cleared: none, one, all that end at a row, those of one pin after another.
--   cleared_none, cleared_one      no window; one window
--   cleared_then, cleared_as       one test after another; another test that says the same
--   ending_first, ending_next, ending_last     the windows that end at a row, from one first row after another
--   moving_first, moving_next, staying_next, moving_last     those that end at a row where a list moves, row after row
use Rattle.std.specs.Prelude.{if◌then◌else◌}
use Prim.Native.Nat.{ℕ, ◌+◌, ◌-◌, ◌*◌, ◌<◌, ◌≤◌}
use native.Mathlib.Omega.{arith}
use mathlib.Core.Path.{◌≡◌, refl, sym, ◌∙◌}
use mathlib.Core.Bool.{Bool, true, false, ◌&&◌, ◌||◌}
use mathlib.Core.Logic.{◌⊎◌, inl, inr}
use mathlib.Core.List.{List}
use lib.Dec.{eqb, ltb}
use lib.ListN.{length, set, length-set}
use lib.Seq.{get_or-set_same, get_or-set_other}
use borrow.Author.Tests.{lt-ltb, le-ltb, eq-eqb, ne_eqb}
use Rattle.basics.proofs.Bools.{below?, equal?}
use Rattle.answer_table.specs.Tables.{entry, stored}
use Rattle.held_parts.specs.Holding.{Cleared, ends_at, list_moves}
use Rattle.answer_table.proofs.Stored.{stored_at}

pub cleared_none : {base size : ℕ} {t : List ℕ} → length t ≡ 65536 → Cleared (λ a b. false) base size t t
cleared_none h = record { is = λ a b l u. refl; below = λ i l. refl; above = λ i l. refl; long = h }

-- the entry of one window
abbrev pub is_at : ℕ → ℕ → ℕ → ℕ → Bool
is_at m n a b = eqb a m && eqb b n

module _ (t : List ℕ) (base m n : ℕ) (some : m < n) (last : n ≤ 16) (room : base ≤ 65280)
    (long : length t ≡ 65536) where
  abbrev next : List ℕ
  next = set t (base + m * 16 + (n - 1)) 0

  same_entry : stored next base m n ≡ 0
  same_entry =
      sym (stored_at (set t (base + m * 16 + (n - 1)) 0) base m n some)
      ∙ get_or-set_same t (base + m * 16 + (n - 1)) 0 0 (omega arith)

  other_entry : (a b : ℕ) → a < b → (base + a * 16 + (b - 1) ≡ base + m * 16 + (n - 1) → ⊥)
      → stored next base a b ≡ stored t base a b
  other_entry a b l d =
      sym (stored_at (set t (base + m * 16 + (n - 1)) 0) base a b l)
      ∙ get_or-set_other t (base + m * 16 + (n - 1)) (base + a * 16 + (b - 1)) 0 0 d
      ∙ stored_at t base a b l

  each : (a b : ℕ) → a < b → b ≤ 16 → (a ≡ m) ⊎ (a ≡ m → ⊥) → (b ≡ n) ⊎ (b ≡ n → ⊥)
      → stored next base a b ≡ (if is_at m n a b then 0 else stored t base a b)
  each a b l u (inl e) (inl d) = rw (eq-eqb _ _ e, eq-eqb _ _ d, e, d) same_entry
  each a b l u (inl e) (inr d) = rw (eq-eqb _ _ e, ne_eqb _ _ d) (other_entry a b l (λ k. d (omega arith)))
  each a b l u (inr e) q = rw (ne_eqb _ _ e) (other_entry a b l (λ k. e (omega arith)))

  cleared_one : Cleared (is_at m n) base 16 t (set t (base + m * 16 + (n - 1)) 0)
  cleared_one =
      record {
        is = λ a b l u. each a b l u (equal? a m) (equal? b n);
        below = λ i l. get_or-set_other t (base + m * 16 + (n - 1)) i 0 0 (λ d. omega arith);
        above = λ i l. get_or-set_other t (base + m * 16 + (n - 1)) i 0 0 (λ d. omega arith);
        long = length-set t (base + m * 16 + (n - 1)) 0 ∙ long;
      }

-- one test after another
both : (p q : Bool) (x y : ℕ) → x ≡ (if p then 0 else y) → (if q then 0 else x) ≡ (if p || q then 0 else y)
both true true x y h = refl
both true false x y h = h
both false true x y h = refl
both false false x y h = h

module _ {p q : ℕ → ℕ → Bool} {base : ℕ} {t u : List ℕ} where
  pub cleared_then : {m n : ℕ} {v : List ℕ} → m ≤ n → Cleared p base m t u → Cleared q base n u v
      → Cleared (λ a b. p a b || q a b) base m t v
  cleared_then l g h =
      record {
        is = λ a b k o. h.is a b k (omega arith) ∙ both (p a b) (q a b) _ _ (g.is a b k o);
        below = λ i k. h.below i k ∙ g.below i k;
        above = λ i k. h.above i k ∙ g.above i k;
        long = h.long;
      }

  pub cleared_as : {m n : ℕ} → m ≤ n → ((a b : ℕ) → a < b → b ≤ m → p a b ≡ q a b) → Cleared p base n t u
      → Cleared q base m t u
  cleared_as l e g =
      record {
        is = λ a b k o. rw (← e a b k o) (g.is a b k (omega arith));
        below = g.below;
        above = g.above;
        long = g.long;
      }

or_none : (p : Bool) → (p || false) ≡ p
or_none true = refl
or_none false = refl

and_none : (p : Bool) → (p && false) ≡ false
and_none true = refl
and_none false = refl

-- the windows from the first m rows that end at row n
abbrev pub ending : ℕ → ℕ → ℕ → ℕ → Bool
ending n m a b = ltb a m && eqb b n

one_more_lem : (n m a b : ℕ) → (ending n m a b || is_at m n a b) ≡ ending n (m + 1) a b
one_more_lem n m a b = go (below? a m) (equal? a m)
  where
    go : (a < m) ⊎ (m ≤ a) → (a ≡ m) ⊎ (a ≡ m → ⊥) → (ending n m a b || is_at m n a b) ≡ ending n (m + 1) a b
    go (inl l) q =
        rw (lt-ltb _ _ l, ne_eqb a m (λ e. omega arith), lt-ltb a (m + 1) (omega arith)) (or_none (eqb b n))
    go (inr l) (inl e) = rw (le-ltb _ _ l, eq-eqb _ _ e, lt-ltb a (m + 1) (omega arith)) refl
    go (inr l) (inr d) = rw (le-ltb _ _ l, ne_eqb _ _ d, le-ltb a (m + 1) (omega arith)) refl

all_rows : (n m a b : ℕ) → n ≤ m → a < b → ending n m a b ≡ ends_at n a b
unfolding ends_at
all_rows n m a b l k = go (equal? b n)
  where
    go : (b ≡ n) ⊎ (b ≡ n → ⊥) → ending n m a b ≡ eqb b n
    go (inl e) = rw (lt-ltb a m (omega arith)) refl
    go (inr d) = rw (ne_eqb _ _ d) (and_none (ltb a m))

pub record Ended (n m base : ℕ) (t u : List ℕ) : Type 0 where
  pub is : Cleared (ending n m) base 16 t u

module _ {n base : ℕ} {t : List ℕ} where
  pub ending_first : length t ≡ 65536 → Ended n 0 base t t
  ending_first h =
      record {
        is = cleared_as {n = 16} (omega arith) (λ a b l u. rw (le-ltb a 0 (omega arith)) refl) (cleared_none h);
      }

  module _ {m : ℕ} {u : List ℕ} (g : Ended n m base t u) where
    pub ending_next : m < n → n ≤ 16 → base ≤ 65280 → Ended n (m + 1) base t (set u (base + m * 16 + (n - 1)) 0)
    ending_next l k o =
        record {
          is = cleared_as {n = 16} (omega arith) (λ a b i j. one_more_lem n m a b)
              (cleared_then {n = 16} (omega arith) g.is (cleared_one u base m n l k o g.is.long));
        }

    pub ending_last : n ≤ m → Cleared (ends_at n) base 16 t u
    ending_last l = cleared_as {n = 16} (omega arith) (λ a b k u. all_rows n m a b l k) g.is

-- those that end at the rows up to n, where the states listed change
abbrev pub up_to : List ℕ → ℕ → ℕ → ℕ → Bool
up_to list n a b = ltb b (n + 1) && list_moves list a b

module _ (list : List ℕ) (n a b : ℕ) where
  moves_there : (entry list n ≡ entry list (n + 1) → ⊥)
      → (up_to list n a b || ends_at (n + 1) a b) ≡ up_to list (n + 1) a b
  unfolding list_moves ends_at
  moves_there d = go (below? b (n + 1)) (equal? b (n + 1))
    where
      go : (b < n + 1) ⊎ (n + 1 ≤ b) → (b ≡ n + 1) ⊎ (b ≡ n + 1 → ⊥)
          → (up_to list n a b || eqb b (n + 1)) ≡ up_to list (n + 1) a b
      go (inl l) q =
          rw (lt-ltb _ _ l, ne_eqb b (n + 1) (λ e. omega arith), lt-ltb b (n + 1 + 1) (omega arith))
          (or_none (list_moves list a b))
      go (inr l) (inl e) =
          let f : b - 1 ≡ n = omega arith in
          rw (le-ltb _ _ l, eq-eqb _ _ e, lt-ltb b (n + 1 + 1) (omega arith), f, e, ne_eqb _ _ d) refl
      go (inr l) (inr o) = rw (le-ltb _ _ l, ne_eqb _ _ o, le-ltb b (n + 1 + 1) (omega arith)) refl

  stays_there : entry list n ≡ entry list (n + 1) → up_to list n a b ≡ up_to list (n + 1) a b
  unfolding list_moves
  stays_there d = go (below? b (n + 1)) (equal? b (n + 1))
    where
      go : (b < n + 1) ⊎ (n + 1 ≤ b) → (b ≡ n + 1) ⊎ (b ≡ n + 1 → ⊥) → up_to list n a b ≡ up_to list (n + 1) a b
      go (inl l) q = rw (lt-ltb _ _ l, lt-ltb b (n + 1 + 1) (omega arith)) refl
      go (inr l) (inl e) =
          let f : b - 1 ≡ n = omega arith in
          rw (le-ltb _ _ l, lt-ltb b (n + 1 + 1) (omega arith), f, e, eq-eqb _ _ d) refl
      go (inr l) (inr o) = rw (le-ltb _ _ l, le-ltb b (n + 1 + 1) (omega arith)) refl

pub record Held (list : List ℕ) (n base size : ℕ) (t u : List ℕ) : Type 0 where
  pub is : Cleared (up_to list n) base size t u

module _ {list : List ℕ} {base size : ℕ} {t : List ℕ} where
  pub moving_first : length t ≡ 65536 → Held list 0 base size t t
  moving_first h =
      record {
        is = cleared_as {n = size} (omega arith) (λ a b l u. rw (le-ltb b (0 + 1) (omega arith)) refl)
            (cleared_none h);
      }

  module _ {n : ℕ} {u : List ℕ} (g : Held list n base size t u) where
    pub moving_next : {v : List ℕ} → size ≤ 16 → (entry list n ≡ entry list (n + 1) → ⊥)
        → Cleared (ends_at (n + 1)) base 16 u v → Held list (n + 1) base size t v
    moving_next l d h =
        record {
          is = cleared_as {n = size} (omega arith) (λ a b i j. moves_there list n a b d)
              (cleared_then {n = 16} l g.is h);
        }

    pub staying_next : entry list n ≡ entry list (n + 1) → Held list (n + 1) base size t u
    staying_next d =
        record { is = cleared_as {n = size} (omega arith) (λ a b i j. stays_there list n a b d) g.is }

    pub moving_last : size ≤ n → Cleared (list_moves list) base size t u
    moving_last l =
        cleared_as {n = size} (omega arith) (λ a b i j. rw (lt-ltb b (n + 1) (omega arith)) refl) g.is
