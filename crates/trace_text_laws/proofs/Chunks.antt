-- Lists in equal parts, and lists from a rule.
--   map_listed       a list from a rule, each entry taken further
--   listed_same      two rules that agree
--   listed_part      the entries of a list, from a place on
--   chunks_whole     the parts of c entries each, one after the other, are the list
use Prim.Native.Nat.{ℕ, zero, suc, ◌+◌, ◌*◌, ◌<◌, ◌≤◌}
use native.Mathlib.Omega.{arith}
use native.Mathlib.Nat.{zero-mul, suc-mul}
use mathlib.Core.Path.{◌≡◌, refl, ap, ◌∙◌}
use mathlib.Core.List.{List, ◌∷◌, ◌++◌, map}
use lib.ListN.{length, get_or, take, drop}
use lib.Seq.{take-add, drop-drop, drop-cons, take_all}
use Rattle.basics.specs.Words.{listed}
use Rattle.basics.specs.Text.{joined}
use Rattle.trace_format.proofs.RowByRow.{next_to}

pub map_listed : {A B : Type 0} (g : A → B) (a n : ℕ) (f : ℕ → A) → map g (listed a n f) ≡ listed a n (λ i. g (f i))
unfolding listed
map_listed g a zero f = refl
map_listed {B = B} g a (suc n) f = ap (λ (l : List B). g (f a) ∷ l) (map_listed g (a + 1) n f)

pub listed_same : {A : Type 0} (f g : ℕ → A) (a n : ℕ) → ((i : ℕ) → a ≤ i → i < a + n → f i ≡ g i)
    → listed a n f ≡ listed a n g
unfolding listed
listed_same f g a zero h = refl
listed_same f g a (suc n) h =
    let e = h a (omega arith) (omega arith) in
    let l = listed_same f g (a + 1) n (λ i k m. h i (omega arith) (omega arith)) in
    cc

-- n entries from place p on
pub listed_part : (l : List ℕ) (p a n : ℕ) → p + a + n ≤ length l
    → listed a n (λ i. get_or l (p + i) 0) ≡ take n (drop (p + a) l)
unfolding listed
listed_part l p a zero h = refl
listed_part l p a (suc n) h =
    let here : p + a < length l = omega arith in
    let e : p + (a + 1) ≡ suc (p + a) = omega arith in
    let i : listed (a + 1) n (λ i. get_or l (p + i) 0) ≡ take n (drop (p + (a + 1)) l) =
    listed_part l p (a + 1) n (omega arith) in
    rw (drop-cons l (p + a) 0 here) (ap (λ (x : List ℕ). get_or l (p + a) 0 ∷ x)
    (i ∙ ap (λ (q : ℕ). take n (drop q l)) e))

chunks : (l : List ℕ) (c a m : ℕ)
    → joined (listed a m (λ r. take c (drop (r * c) l))) ≡ take (m * c) (drop (a * c) l)
unfolding joined listed
chunks l c a zero = let e : zero * c ≡ 0 = zero-mul c in rw e refl
chunks l c a (suc m) =
    let e : suc m * c ≡ c + m * c = omega (arith, suc-mul m c) in
    let f : (a + 1) * c ≡ a * c + c = omega (arith, next_to a c) in
    rw (e, take-add c (m * c) (drop (a * c) l), drop-drop c (a * c) l)
    (ap (λ (x : List ℕ). take c (drop (a * c) l) ++ x)
    (chunks l c (a + 1) m ∙ ap (λ (q : ℕ). take (m * c) (drop q l)) f))

pub chunks_whole : (l : List ℕ) (c n : ℕ) → length l ≡ n * c
    → joined (listed 0 n (λ r. take c (drop (r * c) l))) ≡ l
chunks_whole l c n h =
    let e : 0 * c ≡ 0 = zero-mul c in
    chunks l c 0 n ∙ ap (λ (q : ℕ). take (n * c) (drop q l)) e ∙ take_all (n * c) l (omega (arith, h))
