-- Operators and their bytes: the byte of the operator at a byte is that byte, and the operation at an operator's byte
-- is that operator's.
-- Main names: binary_byte_lem, join_byte_lem, edge_byte, edge_known; leaf_class, pair_class, three_class, one_class;
-- name_operation, literal_operation, binary_operation,
-- join_operation, edge_operation, and those of `!`, `? :`, P & c and c & P.
use Prim.Native.Nat.{ℕ, zero, suc, ◌+◌, ◌-◌, ◌*◌, ◌/◌, ◌%◌, ◌<◌, ◌≤◌}
use native.Mathlib.Omega.{arith}
use native.Mathlib.Numerals.{add-one}
use mathlib.Core.Path.{◌≡◌, refl, ap, ap₂, ◌∙◌}
use mathlib.Core.Bool.{true}
use lib.Dec.{ltb, eqb}
use borrow.Author.Tests.{lt-ltb, le-ltb, ltb-true, eqb-true}
use Rattle.alf.specs.Expressions.{name, literal, binary, choice}
use Rattle.alf.specs.Expressions.{Binary, and, or, xor, xnor, equals, differs, above, below, is_at_least, is_at_most}
use Rattle.alf.specs.Expressions.{Half, any, the, Edge, pair, changes, stays, edge, join}
use Rattle.alf.specs.Expressions.{Join, followed_by_join, either_order, with_or_then, any_order, with, or_else}
use Rattle.alf.specs.Expressions.{on_right, on_left, vector, HalfKnown, EdgeKnown}
use Rattle.alf.specs.Bytes.{binary_byte, join_byte, half_number, edge_number}
use Rattle.alf.specs.Decoder.{binary_at, join_at, half_at, edge_at}
use Rattle.alf.specs.Decoder.{leaf, of_one, of_two, of_three, of_vectors, of_side, negation}
use Rattle.alf.specs.Decoder.{leaf_at, pair_at, three_at, one_at, operation_at}
use Rattle.basics.proofs.Choices.{if_all, every, every_at}

-- a function that is m + k at k, for every k below n
computed : (m n : ℕ) (f : ℕ → ℕ) → every n (λ k. eqb (f k) (m + k)) ≡ true → (k : ℕ) → k < n
    → f k ≡ m + k
computed m n f h k l = eqb-true (f k) (m + k) (every_at n (λ k. eqb (f k) (m + k)) h k l)

-- the byte of the operator at a byte
pub binary_byte_lem : {b : ℕ} → 40 ≤ b → b < 50 → binary_byte (binary_at (b - 40)) ≡ b
unfolding every binary_byte binary_at
binary_byte_lem {b} l u =
    let e = computed 40 10 (λ k. binary_byte (binary_at k)) refl (b - 40) (omega arith) in
    e ∙ omega arith

pub join_byte_lem : {b : ℕ} → 50 ≤ b → b < 56 → join_byte (join_at (b - 50)) ≡ b
unfolding every join_byte join_at
join_byte_lem {b} l u =
    let e = computed 50 6 (λ k. join_byte (join_at k)) refl (b - 50) (omega arith) in
    e ∙ omega arith

pub edge_byte : {b : ℕ} → 64 ≤ b → b < 147 → 64 + edge_number (edge_at (b - 64)) ≡ b
unfolding every edge_number edge_at half_number half_at
edge_byte {b} l u =
    let e = computed 64 83 (λ k. 64 + edge_number (edge_at k)) refl (b - 64) (omega arith) in
    e ∙ omega arith

half_known : (h : ℕ) → h < 9 → HalfKnown (half_at h)
unfolding HalfKnown half_at
half_known zero l = tt
half_known (suc s) l = omega arith

pub edge_known : (k : ℕ) → k < 83 → EdgeKnown (edge_at k)
unfolding EdgeKnown edge_at
edge_known k l =
    if_all EdgeKnown (ltb k 81)
    (λ e. let u = ltb-true k 81 e in (half_known (k / 9) (omega arith), half_known (k % 9) (omega arith)))
    (λ e. if_all EdgeKnown (eqb k 81) (λ f. tt) (λ f. tt))

-- the four classes of bytes
pub leaf_class : (names b : ℕ) → b < 40 → operation_at names b ≡ leaf_at names b
unfolding operation_at
leaf_class names b h = simp (lt-ltb _ _ h)

pub pair_class : (names b : ℕ) → 40 ≤ b → b < 60 → operation_at names b ≡ pair_at b
unfolding operation_at
pair_class names b h k = simp (le-ltb _ _ h, lt-ltb _ _ k)

pub three_class : (names b : ℕ) → 60 ≤ b → b < 64 → operation_at names b ≡ three_at b
unfolding operation_at
three_class names b h k = let j : 40 ≤ b = omega arith in simp (le-ltb _ _ j, le-ltb _ _ h, lt-ltb _ _ k)

pub one_class : (names b : ℕ) → 64 ≤ b → operation_at names b ≡ one_at b
unfolding operation_at
one_class names b h =
    let j : 40 ≤ b = omega arith in
    let k : 60 ≤ b = omega arith in
    simp (le-ltb _ _ j, le-ltb _ _ k, le-ltb _ _ h)

-- the operation at an operator's byte
pub name_operation : (names i : ℕ) → i < names → names ≤ 32 → operation_at names i ≡ leaf (name i)
unfolding operation_at leaf_at
name_operation names i l u =
    let h : i < 32 = omega arith in
    let k : i < 40 = omega arith in
    rw (lt-ltb _ _ k, lt-ltb _ _ h, lt-ltb _ _ l) refl

pub literal_operation : (names s : ℕ) → s < 8 → operation_at names (32 + s) ≡ leaf (literal s)
unfolding operation_at leaf_at
literal_operation names s l =
    let h : 32 ≤ 32 + s = omega arith in
    let k : 32 + s < 40 = omega arith in
    let e : 32 + s - 32 ≡ s = omega arith in
    rw (lt-ltb _ _ k, le-ltb _ _ h, e) refl

pub binary_operation : (names : ℕ) (o : Binary) → operation_at names (binary_byte o) ≡ of_two (binary o)
unfolding operation_at pair_at binary_byte binary_at
binary_operation names and = refl
binary_operation names or = refl
binary_operation names xor = refl
binary_operation names xnor = refl
binary_operation names equals = refl
binary_operation names differs = refl
binary_operation names above = refl
binary_operation names below = refl
binary_operation names is_at_least = refl
binary_operation names is_at_most = refl

pub join_operation : (names : ℕ) (j : Join) → operation_at names (join_byte j) ≡ of_vectors (join j)
unfolding operation_at pair_at join_byte join_at
join_operation names followed_by_join = refl
join_operation names either_order = refl
join_operation names with_or_then = refl
join_operation names any_order = refl
join_operation names with = refl
join_operation names or_else = refl

pub negation_operation : (names : ℕ) → operation_at names 147 ≡ of_one negation
unfolding operation_at one_at
negation_operation names = refl

pub choice_operation : (names : ℕ) → operation_at names 60 ≡ of_three choice
unfolding operation_at three_at
choice_operation names = refl

pub right_operation : (names : ℕ) → operation_at names 56 ≡ of_side on_right
unfolding operation_at pair_at
right_operation names = refl

pub left_operation : (names : ℕ) → operation_at names 57 ≡ of_side on_left
unfolding operation_at pair_at
left_operation names = refl

-- an edge's number, and the edge that has it
half_at_lem : (h : Half) → half_at (half_number h) ≡ h
unfolding half_at half_number
half_at_lem any = refl
half_at_lem (the s) = rw add-one refl

half_small : (h : Half) → HalfKnown h → half_number h < 9
unfolding HalfKnown half_number
half_small any k = omega arith
half_small (the s) k = omega arith

edge_at_lem : (e : Edge) → EdgeKnown e → (edge_number e < 83) × (edge_at (edge_number e) ≡ e)
unfolding EdgeKnown edge_number edge_at
edge_at_lem (pair f t) (k, l) =
    let x = half_small f k in
    let y = half_small t l in
    let u : 9 * half_number f + half_number t < 81 = omega arith in
    let d : (9 * half_number f + half_number t) / 9 ≡ half_number f = omega arith in
    let m : (9 * half_number f + half_number t) % 9 ≡ half_number t = omega arith in
    (omega arith, rw (lt-ltb _ _ u, d, m) (ap₂ pair (half_at_lem f) (half_at_lem t)))
edge_at_lem changes k = (omega arith, refl)
edge_at_lem stays k = (omega arith, refl)

pub edge_operation : (names : ℕ) (e : Edge) → EdgeKnown e
    → operation_at names (64 + edge_number e) ≡ of_one (λ c. vector (edge e c))
unfolding one_at
edge_operation names e k =
    let (l, d) = edge_at_lem e k in
    let u : 64 + edge_number e < 147 = omega arith in
    let m : 64 + edge_number e - 64 ≡ edge_number e = omega arith in
    one_class names _ (omega arith) ∙ rw (lt-ltb _ _ u, m) (ap (λ (x : Edge). of_one (λ c. vector (edge x c))) d)
