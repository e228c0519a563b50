-- Lists in parts of one length, and what is so of each entry.
--   parts_length, joined_part              how long the parts are together, and one of them
--   all_map, map_all, all_at, all_parts, all_by     what is so of each entry
use Prim.Native.Nat.{ℕ, zero, suc, ◌+◌, ◌*◌, ◌<◌}
use native.Mathlib.Omega.{arith}
use native.Mathlib.Nat.{zero-mul, suc-mul}
use mathlib.Core.Path.{◌≡◌, sym}
use mathlib.Core.List.{List, [], ◌∷◌, ◌++◌, map}
use lib.ListN.{length, get_or, take, drop, length-append}
use lib.Seq.{take_at, drop-append-add}
use Rattle.basics.specs.Words.{All}
use Rattle.basics.specs.Text.{joined}

-- parts of c entries each
pub parts_length : (c : ℕ) {ls : List (List ℕ)} → All (λ l. length l ≡ c) ls → length (joined ls) ≡ length ls * c
unfolding joined
parts_length c All.none = sym (zero-mul c)
parts_length c (All.more {x = l} {xs = ls} e a) =
    omega (arith, length-append l (joined ls), e, parts_length c a, suc-mul (length ls) c)

pub joined_part : (c : ℕ) {ls : List (List ℕ)} → All (λ l. length l ≡ c) ls → (i : ℕ) → i < length ls
    → take c (drop (i * c) (joined ls)) ≡ get_or ls i []
unfolding joined
joined_part c All.none i h = absurd (omega arith)
joined_part c (All.more {x = l} {xs = ls} e a) zero h =
    let z : zero * c ≡ 0 = zero-mul c in
    rw z (take_at l (joined ls) c e)
joined_part c (All.more {x = l} {xs = ls} e a) (suc i) h =
    let s : suc i * c ≡ length l + i * c = omega (arith, suc-mul i c, e) in
    rw (s, drop-append-add l (joined ls) (i * c)) (joined_part c a i (omega arith))

pub all_map : {A B : Type 0} {P : B → Type 0} (f : A → B) (l : List A) → ((x : A) → P (f x)) → All P (map f l)
all_map f [] h = All.none
all_map f (x ∷ l) h = All.more (h x) (all_map f l h)

pub map_all : {A B : Type 0} {P : B → Type 0} (f : A → B) {l : List A} → All (λ x. P (f x)) l → All P (map f l)
map_all f All.none = All.none
map_all f (All.more p a) = All.more p (map_all f a)

pub all_at : {A : Type 0} {P : A → Type 0} {l : List A} (d : A) → All P l → (i : ℕ) → i < length l → P (get_or l i d)
all_at d All.none i h = absurd (omega arith)
all_at d (All.more p a) zero h = p
all_at d (All.more p a) (suc i) h = all_at d a i (omega arith)

pub all_parts : {P : ℕ → Type 0} {ls : List (List ℕ)} → All (All P) ls → All P (joined ls)
unfolding joined
all_parts All.none = All.none
all_parts (All.more p a) = both p (all_parts a)
  where
    both : {P : ℕ → Type 0} {x y : List ℕ} → All P x → All P y → All P (x ++ y)
    both All.none b = b
    both (All.more q c) b = All.more q (both c b)

pub all_by : {A : Type 0} {P : A → Type 0} (d : A) (l : List A) → ((i : ℕ) → i < length l → P (get_or l i d)) → All P l
all_by d [] h = All.none
all_by d (x ∷ l) h = All.more (h 0 (omega arith)) (all_by d l (λ i k. h (suc i) (omega arith)))
