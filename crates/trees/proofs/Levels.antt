-- The level of an expression, from its last byte.
-- Main names: level_table (the table of the code), level_some, level_one, level_made, level_at_lem.
use Prim.Native.Nat.{ℕ, ◌+◌, ◌-◌, ◌<◌, ◌≤◌}
use native.Mathlib.Omega.{arith}
use mathlib.Core.Path.{◌≡◌, refl, ap, sym, ◌∙◌}
use mathlib.Core.Bool.{true}
use mathlib.Core.List.{List, [], ◌∷◌}
use lib.Dec.{ltb, eqb}
use lib.ListN.{get_or}
use borrow.Author.Tests.{lt-ltb, le-ltb, ltb-true, eqb-true}
use Rattle.alf.specs.Decoder.{Stack, binary_at, join_at}
use Rattle.basics.proofs.Bools.{never}
use Rattle.basics.proofs.Choices.{every, every_at}
use Rattle.alf.proofs.Made.{Made, a_name, a_literal, a_negation, a_binary, a_choice, an_edge, a_join}
use Rattle.alf.proofs.Made.{a_condition, a_condition_before, nothing}
use Rattle.alf.proofs.Parts.{made_last}
use Rattle.trees.specs.Parts.{is_whole, top, Ends, expression_at}
use Rattle.trees.specs.Brackets.{binary_level, join_level, level_of, level_at}
use Rattle.trees.proofs.Starts.{ends_pos}

-- the levels of the bytes from 40 to 55, as the code has them
abbrev pub table : List ℕ
table = 3 ∷ 5 ∷ 2 ∷ 2 ∷ 2 ∷ 2 ∷ 2 ∷ 2 ∷ 2 ∷ 2 ∷ 4 ∷ 4 ∷ 4 ∷ 4 ∷ 3 ∷ 5 ∷ []

pub level_table : (b : ℕ) → 40 ≤ b → b < 56 → get_or table (b - 40) 0 ≡ level_at b
unfolding every level_at binary_level join_level binary_at join_at
level_table b l u =
    let e = every_at 16 (λ k. eqb (get_or table k 0) (level_at (40 + k))) refl (b - 40) (omega arith) in
    let d : 40 + (b - 40) ≡ b = omega arith in
    eqb-true _ _ e ∙ ap level_at d

pub level_some : (b : ℕ) → 40 ≤ b → b < 60 → 0 < level_at b
unfolding every level_at binary_level join_level binary_at join_at
level_some b l u =
    let e = every_at 20 (λ k. ltb 0 (level_at (40 + k))) refl (b - 40) (omega arith) in
    let d : 40 + (b - 40) ≡ b = omega arith in
    rw d at (ltb-true 0 (level_at (40 + (b - 40))) e)

-- the classes
pub level_leaf : (b : ℕ) → b < 40 → level_at b ≡ 0
unfolding level_at
level_leaf b h = rw (lt-ltb _ _ h) refl

pub level_binary : (b : ℕ) → 40 ≤ b → b < 50 → level_at b ≡ binary_level (binary_at (b - 40))
unfolding level_at
level_binary b h k = rw (le-ltb _ _ h, lt-ltb _ _ k) refl

pub level_join : (b : ℕ) → 50 ≤ b → b < 56 → level_at b ≡ join_level (join_at (b - 50))
unfolding level_at
level_join b h k = let i : 40 ≤ b = omega arith in rw (le-ltb _ _ i, le-ltb _ _ h, lt-ltb _ _ k) refl

pub level_condition : (b : ℕ) → 56 ≤ b → b < 60 → level_at b ≡ 3
unfolding level_at
level_condition b h k =
    let i : 40 ≤ b = omega arith in
    let j : 50 ≤ b = omega arith in
    rw (le-ltb _ _ i, le-ltb _ _ j, le-ltb _ _ h, lt-ltb _ _ k) refl

pub level_choice : (b : ℕ) → 60 ≤ b → b < 64 → level_at b ≡ 6
unfolding level_at
level_choice b h k =
    let i : 40 ≤ b = omega arith in
    let j : 50 ≤ b = omega arith in
    let l : 56 ≤ b = omega arith in
    rw (le-ltb _ _ i, le-ltb _ _ j, le-ltb _ _ l, le-ltb _ _ h, lt-ltb _ _ k) refl

pub level_one : (b : ℕ) → 64 ≤ b → level_at b ≡ 1
unfolding level_at
level_one b h =
    let i : 40 ≤ b = omega arith in
    let j : 50 ≤ b = omega arith in
    let k : 56 ≤ b = omega arith in
    let l : 60 ≤ b = omega arith in
    rw (le-ltb _ _ i, le-ltb _ _ j, le-ltb _ _ k, le-ltb _ _ l, le-ltb _ _ h) refl

pub level_made : (names b : ℕ) {s s' : Stack} → Made names b s s' → is_whole s' ≡ true
    → level_of (top s') ≡ level_at b
unfolding is_whole top level_of
level_made names b (a_name l u) h = sym (level_leaf b (omega arith))
level_made names b (a_literal l u) h = sym (level_leaf b u)
level_made names b (a_negation k e) h = sym (level_one b (omega arith))
level_made names b (a_binary l u e) h = sym (level_binary b l u)
level_made names b (a_choice k e) h = sym (level_choice b (omega arith) (omega arith))
level_made names b (an_edge l u e) h = sym (level_one b l)
level_made names b (a_join l u e) h = sym (level_join b l u)
level_made names b (a_condition k e) h = sym (level_condition b (omega arith) (omega arith))
level_made names b (a_condition_before k e) h = sym (level_condition b (omega arith) (omega arith))
level_made names b nothing h = never h

pub level_at_lem : (t : List ℕ) (names end : ℕ) → Ends t names end
    → level_of (expression_at t names end) ≡ level_at (get_or t (end - 1) 0)
level_at_lem t names end h = level_made names _ (made_last t names end (ends_pos h)) h.whole
