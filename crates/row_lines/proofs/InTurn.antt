-- A text with a part for each number below n, f 0, f 1, .., measured or written part after part.
--   Written, written_first, written_room, written_next, written_end    the parts before the i-th are written
--   Measured, measured_first, measured_next, measured_end              the parts before the i-th have so many bytes
--   parts_same, parts_shifted     two rules that agree give one text; parts that are counted from another place
use Prim.Native.Nat.{ℕ, zero, suc, ◌+◌, ◌-◌, ◌*◌, ◌<◌, ◌≤◌}
use native.Mathlib.Omega.{arith}
use native.Mathlib.Nat.{zero-mul}
use mathlib.Core.Path.{◌≡◌, refl, sym, ap, ◌∙◌}
use mathlib.Core.List.{List, [], ◌∷◌, ◌++◌}
use lib.ListN.{length, length-append}
use Rattle.basics.specs.Words.{listed}
use Rattle.basics.specs.Memory.{Put, Room}
use Rattle.basics.proofs.Listed.{listed_same}
use Rattle.basics.proofs.PartByPart.{flat, Going, going_start, going_room, going_on, going_parts, going_end}
use Rattle.basics.proofs.PartByPart.{going_length}
use Rattle.basics.specs.Text.{joined}
use Rattle.listing.specs.Inner.{Sized}
use Rattle.trace_format.proofs.RowByRow.{next_to}

joined_flat : (l : List (List ℕ)) → joined l ≡ flat l
unfolding joined
joined_flat [] = refl
joined_flat (w ∷ l) = ap (λ (x : List ℕ). w ++ x) (joined_flat l)

-- the parts from the i-th on
module _ (f : ℕ → List ℕ) (n i : ℕ) where
  left_next : i < n → listed i (n - i) f ≡ f i ∷ listed (i + 1) (n - (i + 1)) f
  unfolding listed
  left_next h = let e : n - i ≡ suc (n - (i + 1)) = omega arith in rw e refl

  left_none : n ≤ i → listed i (n - i) f ≡ []
  unfolding listed
  left_none h = let e : n - i ≡ 0 = omega arith in rw e refl

pub record Written (f : ℕ → List ℕ) (n : ℕ) (out : List ℕ) (at i : ℕ) (out' : List ℕ) (p : ℕ) : Type 0 where
  pub within : i ≤ n
  pub going : Going out at (joined (listed 0 n f)) (listed i (n - i) f) out' p

pub written_first : (f : ℕ → List ℕ) (n : ℕ) {out : List ℕ} {at : ℕ} → Room out at (joined (listed 0 n f))
    → Written f n out at 0 out at
written_first f n r =
    let e : n - 0 ≡ n = omega arith in
    record { within = omega arith; going = rw e (going_start (listed 0 n f) (joined_flat (listed 0 n f)) r) }

module _ {f : ℕ → List ℕ} {n : ℕ} {out : List ℕ} {at i : ℕ} {out' : List ℕ} {p : ℕ}
    (g : Written f n out at i out' p) where
  pub written_length : length out' ≡ length out
  written_length = going_length g.going

  going_next : i < n
      → Going out at (joined (listed 0 n f)) (f i ∷ listed (i + 1) (n - (i + 1)) f) out' p
  going_next h = going_parts (ap flat (left_next f n i h)) g.going

  pub written_room : i < n → Room out' p (f i)
  written_room h = going_room (going_next h)

  pub written_next : {out'' : List ℕ} {q : ℕ} → i < n → Put out' p (f i) out'' q
      → Written f n out at (i + 1) out'' q
  written_next h u = record { within = omega arith; going = going_on (going_next h) u }

  pub written_end : n ≤ i → Put out at (joined (listed 0 n f)) out' p
  written_end h = going_end (going_parts (ap flat (left_none f n i h)) g.going)

-- each part has at most so many bytes
pub record Measured (f : ℕ → List ℕ) (n most i size : ℕ) : Type 0 where
  pub within : i ≤ n
  pub is : size + length (joined (listed i (n - i) f)) ≡ length (joined (listed 0 n f))
  pub few : size ≤ i * most

pub measured_first : (f : ℕ → List ℕ) (n most : ℕ) → Measured f n most 0 0
measured_first f n most =
    let e : n - 0 ≡ n = omega arith in
    record { within = omega arith; is = rw e (omega arith); few = omega (arith, zero-mul most) }

joined_next : (w : List ℕ) (l : List (List ℕ)) → length (joined (w ∷ l)) ≡ length w + length (joined l)
unfolding joined
joined_next w l = length-append w (joined l)

joined_none : length (joined []) ≡ 0
unfolding joined
joined_none = refl

module _ {f : ℕ → List ℕ} {n most i size : ℕ} (g : Measured f n most i size) where
  pub measured_next : {r : ℕ} → i < n → Sized (f i) most r → Measured f n most (i + 1) (size + r)
  measured_next h s =
      record {
        within = omega arith;
        is =
            omega (
              arith,
              g.is,
              s.is,
              ap (λ (l : List (List ℕ)). length (joined l)) (left_next f n i h),
              joined_next (f i) (listed (i + 1) (n - (i + 1)) f),
            );
        few = omega (arith, g.few, s.few, next_to i most);
      }

  pub measured_end : n ≤ i → Sized (joined (listed 0 n f)) (n * most) size
  measured_end h =
      let e : i ≡ n = omega (arith, g.within) in
      record {
        is =
            omega (
              arith,
              g.is,
              ap (λ (l : List (List ℕ)). length (joined l)) (left_none f n i h),
              joined_none,
            );
        few = rw e at g.few;
      }

pub parts_same : (f g : ℕ → List ℕ) (n : ℕ) → ((i : ℕ) → i < n → f i ≡ g i)
    → joined (listed 0 n f) ≡ joined (listed 0 n g)
parts_same f g n h = ap joined (listed_same f g 0 n (λ i k. h i (omega arith)))

-- the parts from the a-th on, counted from 0
listed_shifted : (f : ℕ → List ℕ) (a b n : ℕ) → listed (a + b) n f ≡ listed b n (λ i. f (a + i))
unfolding listed
listed_shifted f a b zero = refl
listed_shifted f a b (suc n) =
    let e : a + b + 1 ≡ a + (b + 1) = omega arith in
    rw e (ap (λ (l : List (List ℕ)). f (a + b) ∷ l) (listed_shifted f a (b + 1) n))

pub parts_shifted : (f : ℕ → List ℕ) (a n : ℕ) → joined (listed a n f) ≡ joined (listed 0 n (λ i. f (a + i)))
parts_shifted f a n =
    let e : a + 0 ≡ a = omega arith in
    ap joined (ap (λ (b : ℕ). listed b n f) (sym e) ∙ listed_shifted f a 0 n)
