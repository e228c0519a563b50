-- The stack before a place in a tree, from its last byte: how many expressions that byte takes, what is under them, and
-- how many bytes they have.
-- Main names: last, made_last, deep, unders, size, Has, back, deep_le; the arity of each class of byte.
use Prim.Native.Nat.{ℕ, zero, suc, ◌+◌, ◌-◌, ◌<◌, ◌≤◌}
use native.Mathlib.Omega.{arith}
use native.Mathlib.Numerals.{sub-one, add-one, add-two, add-three}
use native.Mathlib.Nat.{add-zero}
use mathlib.Core.Path.{◌≡◌, refl}
use mathlib.Core.List.{List}
use lib.ListN.{get_or, length, length-append}
use borrow.Author.Tests.{lt-ltb, le-ltb}
use Rattle.alf.specs.Bytes.{boolean_bytes, vector_bytes, bytes_of}
use Rattle.alf.specs.Decoder.{operation_at, arity_at, run, stack_at}
use Rattle.alf.specs.Decoder.{Stack, empty, broken, push, under}
use Rattle.alf.proofs.Made.{Made, a_name, a_literal, a_negation, a_binary, a_choice, an_edge, a_join}
use Rattle.alf.proofs.Made.{a_condition, a_condition_before, nothing, made}

-- the stack before `end` is what its last byte makes of the stack before that
pub last : (t : List ℕ) (names end : ℕ) → 0 < end
    → stack_at t names end ≡ run (operation_at names (get_or t (end - 1) 0)) (stack_at t names (end - 1))
unfolding stack_at
last t names zero h = absurd (omega arith)
last t names (suc n) h = rw sub-one refl

pub made_last : (t : List ℕ) (names end : ℕ) → 0 < end
    → Made names (get_or t (end - 1) 0) (stack_at t names (end - 1)) (stack_at t names end)
made_last t names end h = rw (last t names end h) (made names (get_or t (end - 1) 0) (stack_at t names (end - 1)))

-- how many operands a byte takes
pub arity_zero : (b : ℕ) → b < 40 → arity_at b ≡ 0
unfolding arity_at
arity_zero b h = rw (lt-ltb _ _ h) refl

pub arity_two : (b : ℕ) → 40 ≤ b → b < 60 → arity_at b ≡ 2
unfolding arity_at
arity_two b h k = rw (le-ltb _ _ h, lt-ltb _ _ k) refl

pub arity_three : (b : ℕ) → 60 ≤ b → b < 64 → arity_at b ≡ 3
unfolding arity_at
arity_three b h k = let j : 40 ≤ b = omega arith in rw (le-ltb _ _ j, le-ltb _ _ h, lt-ltb _ _ k) refl

pub arity_one : (b : ℕ) → 64 ≤ b → arity_at b ≡ 1
unfolding arity_at
arity_one b h =
    let j : 40 ≤ b = omega arith in
    let k : 60 ≤ b = omega arith in
    rw (le-ltb _ _ j, le-ltb _ _ k, le-ltb _ _ h) refl

-- a stack has n expressions on top; what is under them
unfoldable pub deep : ℕ → Stack → Type 0
deep zero s = Unit {0}
deep (suc n) empty = ⊥
deep (suc n) broken = ⊥
deep (suc n) (push e s) = deep n s

unfoldable pub unders : ℕ → Stack → Stack
unders zero s = s
unders (suc n) s = unders n (under s)

-- how many bytes the n expressions on top have
unfoldable pub size : ℕ → Stack → ℕ
size zero s = 0
size (suc n) empty = 0
size (suc n) broken = 0
size (suc n) (push e s) = length (bytes_of e) + size n s

-- the stack s has n expressions on top, under them what is under m of the stack s', and a byte less than those
pub record Has (n : ℕ) (s : Stack) (m : ℕ) (s' : Stack) : Type 0 where
  pub has : deep n s
  pub same : unders n s ≡ unders m s'
  pub less : size n s + 1 ≡ size m s'

-- a byte that leaves an expression on the stack has taken its operands from it
took : (names b n : ℕ) {s s' : Stack} → Made names b s s' → deep (suc n) s'
    → Has (n + arity_at b) s (suc n) s'
unfolding deep unders under size bytes_of boolean_bytes vector_bytes
took names b n (a_name l u) h =
    rw (arity_zero b (omega arith), add-zero) (record { has = h; same = refl; less = omega arith })
took names b n (a_literal l u) h =
    rw (arity_zero b u, add-zero) (record { has = h; same = refl; less = omega arith })
took names b n (a_negation k e) h =
    rw (arity_one b (omega arith), add-one, e)
    (record { has = h; same = refl; less = simp length-append (omega arith) })
took names b n (a_binary l u e) h =
    rw (arity_two b l (omega arith), add-two, e)
    (record { has = h; same = refl; less = simp length-append (omega arith) })
took names b n (a_choice k e) h =
    rw (arity_three b (omega arith) (omega arith), add-three, e)
    (record { has = h; same = refl; less = simp length-append (omega arith) })
took names b n (an_edge l u e) h =
    rw (arity_one b l, add-one, e) (record { has = h; same = refl; less = simp length-append (omega arith) })
took names b n (a_join l u e) h =
    rw (arity_two b (omega arith) (omega arith), add-two, e)
    (record { has = h; same = refl; less = simp length-append (omega arith) })
took names b n (a_condition k e) h =
    rw (arity_two b (omega arith) (omega arith), add-two, e)
    (record { has = h; same = refl; less = simp length-append (omega arith) })
took names b n (a_condition_before k e) h =
    rw (arity_two b (omega arith) (omega arith), add-two, e)
    (record { has = h; same = refl; less = simp length-append (omega arith) })
took names b n nothing h = absurd h

-- one byte back: its operands take its place
pub back : (t : List ℕ) (names m n : ℕ) → 0 < m → deep (suc n) (stack_at t names m)
    → Has (n + arity_at (get_or t (m - 1) 0)) (stack_at t names (m - 1)) (suc n) (stack_at t names m)
back t names m n p h = took names (get_or t (m - 1) 0) n (made_last t names m p) h

-- there are at least as many bytes as expressions
pub deep_le : (t : List ℕ) (names m n : ℕ) → deep n (stack_at t names m) → n ≤ m
unfolding stack_at deep
deep_le t names zero zero h = omega arith
deep_le t names zero (suc n) h = absurd h
deep_le t names (suc m) zero h = omega arith
deep_le t names (suc m) (suc n) h =
    let g = rw sub-one at (back t names (suc m) n (omega arith) h) in
    let l = deep_le t names m (n + arity_at (get_or t m 0)) g.has in
    omega arith

-- n + 1 expressions on top: one, and n under it
pub deep_under : (n : ℕ) (s : Stack) → deep (suc n) s → deep n (under s)
unfolding deep under
deep_under n empty h = absurd h
deep_under n broken h = absurd h
deep_under n (push e s) h = h

pub size_under : (n : ℕ) (s : Stack) → deep (suc n) s → size (suc n) s ≡ size 1 s + size n (under s)
unfolding deep under size
size_under n empty h = absurd h
size_under n broken h = absurd h
size_under n (push e s) h = omega arith
