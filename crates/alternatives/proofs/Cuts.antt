-- Laws of lists cut into pieces, and of the tests that two lists stand for.
--   cut_drop, cut_at     what is left behind the first pieces; the first piece apart
--   sum_next, sum_take   a sum, one entry and some entries apart
--   part_first, part_next, part_last     n entries of a list from s on, the first i of them passed
--   test_at_lem, tests_length                the tests that two lists stand for
use mathlib.Core.Path.{◌≡◌, refl, ap, ◌∙◌}
use mathlib.Core.List.{List, [], ◌∷◌}
use Prim.Native.Nat.{ℕ, zero, suc, ◌+◌, ◌-◌, ◌<◌, ◌≤◌, max}
use native.Mathlib.Numerals.{add-one}
use native.Mathlib.Nat.{zero-add, add-zero, sub-zero}
use native.Mathlib.Omega.{arith}
use lib.ListN.{length, get_or, take, drop, drop_of_length-le}
use lib.Seq.{drop-cons, drop-drop}
use Rattle.basics.specs.Words.{sum_of, greatest_of}
use Rattle.alf.specs.Alternatives.{Test}
use Rattle.alternatives.specs.InMemory.{cut, test_of, tests_of, sum}

pub sum_nil : sum [] ≡ 0
unfolding sum sum_of
sum_nil = refl

pub sum_cons : (n : ℕ) (ns : List ℕ) → sum (n ∷ ns) ≡ n + sum ns
unfolding sum sum_of
sum_cons n ns = refl

pub cut_cons : {A : Type 0} (n : ℕ) (ns : List ℕ) (xs : List A)
    → cut (n ∷ ns) xs ≡ take n xs ∷ cut ns (drop n xs)
unfolding cut
cut_cons n ns xs = refl

pub cut_none : {A : Type 0} (xs : List A) → cut [] xs ≡ []
unfolding cut
cut_none xs = refl

pub cut_next : {A : Type 0} (ns : List ℕ) (xs : List A) (k : ℕ) → k < length ns
    → cut (drop k ns) xs ≡ take (get_or ns k 0) xs ∷ cut (drop (k + 1) ns) (drop (get_or ns k 0) xs)
cut_next ns xs k h = rw (drop-cons ns k 0, cut_cons, add-one) refl

pub cut_length : {A : Type 0} (ns : List ℕ) (xs : List A) → length (cut ns xs) ≡ length ns
unfolding cut
cut_length [] xs = refl
cut_length (n ∷ ns) xs = ap suc (cut_length ns (drop n xs))

-- what is left of the pieces behind the first m
pub cut_drop : {A : Type 0} (m : ℕ) (ns : List ℕ) (xs : List A)
    → drop m (cut ns xs) ≡ cut (drop m ns) (drop (sum (take m ns)) xs)
unfolding cut sum sum_of
cut_drop zero [] xs = refl
cut_drop zero (n ∷ ns) xs = refl
cut_drop (suc m) [] xs = refl
cut_drop (suc m) (n ∷ ns) xs = cut_drop m ns (drop n xs) ∙ ap (cut (drop m ns)) (drop-drop (sum (take m ns)) n xs)

-- the sum behind entry j, and of entries j on
pub sum_next : (ns : List ℕ) (j : ℕ) → j < length ns → sum (drop j ns) ≡ get_or ns j 0 + sum (drop (j + 1) ns)
sum_next ns j h = rw (drop-cons ns j 0, add-one) (sum_cons (get_or ns j 0) (drop (suc j) ns))

pub sum_take : (ns : List ℕ) (n : ℕ) → sum (take n ns) + sum (drop n ns) ≡ sum ns
unfolding sum sum_of
sum_take [] zero = refl
sum_take [] (suc n) = refl
sum_take (k ∷ ns) zero = zero-add _
sum_take (k ∷ ns) (suc n) = let e = sum_take ns n in omega arith

-- n entries from s on, the first i of them passed
module _ {A : Type 0} (l : List A) (s n : ℕ) where
  abbrev pub part : ℕ → List A
  part i = take (n - i) (drop (s + i) l)

  pub part_first : part 0 ≡ take n (drop s l)
  part_first = rw (add-zero, sub-zero) refl

  pub part_next : (i : ℕ) (d : A) → i < n → s + i < length l → part i ≡ get_or l (s + i) d ∷ part (i + 1)
  part_next i d h k =
      let e : n - i ≡ suc (n - (i + 1)) = omega arith in
      let f : suc (s + i) ≡ s + (i + 1) = omega arith in
      rw (e, drop-cons l (s + i) d, f) refl

  pub part_last : (i : ℕ) → n ≤ i → part i ≡ []
  part_last i h = let e : n - i ≡ 0 = omega arith in rw e refl

-- the piece at k, whose entries start at t, and the others
pub cut_at : {A : Type 0} (ns : List ℕ) (xs : List A) (k t : ℕ) → k < length ns
    → cut (drop k ns) (drop t xs)
    ≡ take (get_or ns k 0) (drop t xs) ∷ cut (drop (k + 1) ns) (drop (t + get_or ns k 0) xs)
cut_at ns xs k t h = rw (cut_next ns (drop t xs) k h, drop-drop) refl

-- what is left behind m entries from s on
pub sum_part_drop : (ns : List ℕ) (s m : ℕ) → sum (take m (drop s ns)) + sum (drop (s + m) ns) ≡ sum (drop s ns)
sum_part_drop ns s m = rw (← drop-drop m s ns) (sum_take (drop s ns) m)

pub tests_length : (tree : List ℕ) (names : ℕ) (edges ends : List ℕ) → length edges ≤ length ends
    → length (tests_of tree names edges ends) ≡ length edges
unfolding tests_of
tests_length tree names [] ends h = refl
tests_length tree names (k ∷ edges) [] h = absurd (omega arith)
tests_length tree names (k ∷ edges) (e ∷ ends) h = ap suc (tests_length tree names edges ends (omega arith))

pub test_at_lem : (tree : List ℕ) (names : ℕ) (edges ends : List ℕ) (t : ℕ) (d : Test)
    → t < length edges → length edges ≤ length ends
    → get_or (tests_of tree names edges ends) t d ≡ test_of tree names (get_or edges t 0) (get_or ends t 0)
unfolding tests_of
test_at_lem tree names [] ends t d h m = absurd (omega arith)
test_at_lem tree names (k ∷ edges) [] t d h m = absurd (omega arith)
test_at_lem tree names (k ∷ edges) (e ∷ ends) zero d h m = refl
test_at_lem tree names (k ∷ edges) (e ∷ ends) (suc t) d h m =
    test_at_lem tree names edges ends t d (omega arith) (omega arith)

-- a sum over a part, from its front
pub sum_part : (ns : List ℕ) (s n i : ℕ) → i < n → s + i < length ns
    → sum (part ns s n i) ≡ get_or ns (s + i) 0 + sum (part ns s n (i + 1))
sum_part ns s n i h k = rw (part_next ns s n i 0 h k, sum_cons) refl

-- the greatest of a list, from its front
pub most_next : (ns : List ℕ) (i : ℕ) → i < length ns
    → greatest_of (λ n. n) (drop i ns) ≡ max (get_or ns i 0) (greatest_of (λ n. n) (drop (i + 1) ns))
unfolding greatest_of
most_next ns i h = rw (drop-cons ns i 0, add-one) refl

pub most_last : (ns : List ℕ) (i : ℕ) → length ns ≤ i → greatest_of (λ n. n) (drop i ns) ≡ 0
unfolding greatest_of
most_last ns i h = rw (drop_of_length-le ns h) refl
