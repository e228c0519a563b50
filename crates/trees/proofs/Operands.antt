-- The operands of an expression end where the code looks for them.
-- Main names: arity_some, arity_more; right_whole, left_whole, first_whole.
use Prim.Native.Nat.{ℕ, ◌-◌, ◌<◌, ◌≤◌}
use native.Mathlib.Omega.{arith}
use native.Mathlib.Nat.{zero-add}
use mathlib.Core.List.{List}
use lib.Dec.{ltb}
use lib.ListN.{get_or, length}
use borrow.Author.Tests.{lt-ltb, le-ltb}
use Rattle.alf.specs.Decoder.{arity_at, stack_at}
use Rattle.basics.proofs.Choices.{if_all}
use Rattle.alf.proofs.Parts.{deep, unders, back, arity_three}
use Rattle.trees.specs.Parts.{Ends, Start}
use Rattle.trees.proofs.Starts.{ends_pos, whole_deep, whole_at}

pub arity_some : (b : ℕ) → 40 ≤ b → 0 < arity_at b
unfolding arity_at
arity_some b k =
    rw (le-ltb b 40 k)
    (if_all (λ n. 0 < n) (ltb b 60) (λ e. omega arith)
    (λ e. if_all (λ n. 0 < n) (ltb b 64) (λ f. omega arith) (λ f. omega arith)))

pub arity_more : (b : ℕ) → 40 ≤ b → b < 64 → 1 < arity_at b
unfolding arity_at
arity_more b k j =
    rw (le-ltb b 40 k, lt-ltb b 64 j) (if_all (λ n. 1 < n) (ltb b 60) (λ e. omega arith) (λ e. omega arith))

module _ (t : List ℕ) (names end : ℕ) (h : Ends t names end) where
  taken : deep (arity_at (get_or t (end - 1) 0)) (stack_at t names (end - 1))
  taken = rw zero-add at (back t names end 0 (ends_pos h) (whole_deep _ h.whole)).has

  inside : end - 1 ≤ length t
  inside = omega (arith, h.within)

  pub right_whole : 40 ≤ get_or t (end - 1) 0 → Ends t names (end - 1)
  unfolding unders
  right_whole k = record { within = inside; whole = whole_at 0 _ _ (arity_some _ k) taken }

  module _ {m : ℕ} (s : Start t names (end - 1) m) where
    pub left_whole : 40 ≤ get_or t (end - 1) 0 → get_or t (end - 1) 0 < 64 → Ends t names m
    unfolding unders
    left_whole k j =
        let l = s.before in
        let i = inside in
        record { within = omega arith; whole = rw s.left (whole_at 1 _ _ (arity_more _ k j) taken) }

    pub first_whole : {o : ℕ} → Start t names m o → 60 ≤ get_or t (end - 1) 0 → get_or t (end - 1) 0 < 64
        → Ends t names o
    unfolding unders
    first_whole f k j =
        let l = s.before in
        let g = f.before in
        let i = inside in
        let d = rw (arity_three _ k j) at taken in
        record { within = omega arith; whole = rw (f.left, s.left) (whole_at 2 3 _ (omega arith) d) }
