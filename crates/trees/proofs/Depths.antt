-- The depth of the brackets of an expression, from its operands', by its last byte; counted no further than 33.
-- Main names: Depth, Placed, depth_small, bracket_is; leaf_depth, one_depth, pair_depth, three_depth.
use Rattle.std.specs.Prelude.{if◌then◌else◌}
use Prim.Native.Nat.{ℕ, ◌+◌, ◌-◌, ◌<◌, ◌≤◌, min, max}
use native.Mathlib.Omega.{arith}
use mathlib.Core.Path.{◌≡◌, refl, ◌∙◌}
use mathlib.Core.Bool.{Bool, true, false}
use mathlib.Core.List.{List}
use lib.Dec.{ltb}
use lib.ListN.{get_or}
use Rattle.alf.specs.Decoder.{Stack, under, stack_at}
use Rattle.basics.proofs.Bools.{never}
use Rattle.alf.proofs.Made.{Made, a_name, a_literal, a_negation, a_binary, a_choice, an_edge, a_join}
use Rattle.alf.proofs.Made.{a_condition, a_condition_before, nothing}
use Rattle.alf.proofs.Parts.{made_last}
use Rattle.trees.specs.Parts.{is_whole, top, Ends, expression_at, Start}
use Rattle.trees.specs.Brackets.{level_at, level_of, bracketed, boolean_depth, vector_depth, depth_of}
use Rattle.trees.proofs.Starts.{ends_pos}
use Rattle.trees.proofs.Levels.{level_binary, level_join, level_condition, level_at_lem}

-- what a byte makes
made_leaf : (names b : ℕ) {s s' : Stack} → Made names b s s' → is_whole s' ≡ true → b < 40
    → depth_of (top s') ≡ 0
unfolding is_whole top under depth_of boolean_depth vector_depth
made_leaf names b (a_name l u) h v = refl
made_leaf names b (a_literal l u) h v = refl
made_leaf names b (a_negation k e) h v = absurd (omega arith)
made_leaf names b (a_binary l u e) h v = absurd (omega arith)
made_leaf names b (a_choice k e) h v = absurd (omega arith)
made_leaf names b (an_edge l u e) h v = absurd (omega arith)
made_leaf names b (a_join l u e) h v = absurd (omega arith)
made_leaf names b (a_condition k e) h v = absurd (omega arith)
made_leaf names b (a_condition_before k e) h v = absurd (omega arith)
made_leaf names b nothing h v = never h

made_one : (names b : ℕ) {s s' : Stack} → Made names b s s' → is_whole s' ≡ true → 64 ≤ b
    → depth_of (top s') ≡ bracketed 1 (top s) (depth_of (top s))
unfolding is_whole top under depth_of boolean_depth vector_depth
made_one names b (a_name l u) h v = absurd (omega arith)
made_one names b (a_literal l u) h v = absurd (omega arith)
made_one names b (a_negation k e) h v = rw e refl
made_one names b (a_binary l u e) h v = absurd (omega arith)
made_one names b (a_choice k e) h v = absurd (omega arith)
made_one names b (an_edge l u e) h v = rw e refl
made_one names b (a_join l u e) h v = absurd (omega arith)
made_one names b (a_condition k e) h v = absurd (omega arith)
made_one names b (a_condition_before k e) h v = absurd (omega arith)
made_one names b nothing h v = never h

made_pair : (names b : ℕ) {s s' : Stack} → Made names b s s' → is_whole s' ≡ true → 40 ≤ b → b < 60
    → depth_of (top s')
    ≡ max (bracketed (level_at b) (top (under s)) (depth_of (top (under s))))
    (bracketed (level_at b - 1) (top s) (depth_of (top s)))
unfolding is_whole top under depth_of boolean_depth vector_depth
made_pair names b (a_name l u) h v w = absurd (omega arith)
made_pair names b (a_literal l u) h v w = absurd (omega arith)
made_pair names b (a_negation k e) h v w = absurd (omega arith)
made_pair names b (a_binary l u e) h v w = rw (e, level_binary b l u) refl
made_pair names b (a_choice k e) h v w = absurd (omega arith)
made_pair names b (an_edge l u e) h v w = absurd (omega arith)
made_pair names b (a_join l u e) h v w = rw (e, level_join b l u) refl
made_pair names b (a_condition k e) h v w = rw (e, level_condition b (omega arith) (omega arith)) refl
made_pair names b (a_condition_before k e) h v w = rw (e, level_condition b (omega arith) (omega arith)) refl
made_pair names b nothing h v w = never h

made_three : (names b : ℕ) {s s' : Stack} → Made names b s s' → is_whole s' ≡ true → 60 ≤ b → b < 64
    → depth_of (top s')
    ≡ max (bracketed 5 (top (under (under s))) (depth_of (top (under (under s)))))
    (max (depth_of (top (under s))) (depth_of (top s)))
unfolding is_whole top under depth_of boolean_depth vector_depth
made_three names b (a_name l u) h v w = absurd (omega arith)
made_three names b (a_literal l u) h v w = absurd (omega arith)
made_three names b (a_negation k e) h v w = absurd (omega arith)
made_three names b (a_binary l u e) h v w = absurd (omega arith)
made_three names b (a_choice k e) h v w = rw e refl
made_three names b (an_edge l u e) h v w = absurd (omega arith)
made_three names b (a_join l u e) h v w = absurd (omega arith)
made_three names b (a_condition k e) h v w = absurd (omega arith)
made_three names b (a_condition_before k e) h v w = absurd (omega arith)
made_three names b nothing h v w = never h

-- a depth, counted no further than 33; and that of an operand in its place
abbrev pub Depth : List ℕ → ℕ → ℕ → ℕ → Type 0
Depth t names end d = d ≡ min 33 (depth_of (expression_at t names end))

abbrev pub Placed : List ℕ → ℕ → ℕ → ℕ → ℕ → Type 0
Placed t names end place d =
    d ≡ min 33 (bracketed place (expression_at t names end) (depth_of (expression_at t names end)))

cap_max : (x y : ℕ) → min 33 (max x y) ≡ max (min 33 x) (min 33 y)
cap_max x y = omega arith

cap_bracket : (q : Bool) (d : ℕ)
    → (if q then min 33 (1 + min 33 d) else min 33 d) ≡ min 33 (if q then 1 + d else d)
cap_bracket true d = omega arith
cap_bracket false d = refl

pub depth_small : (x d : ℕ) → d ≡ min 33 x → d ≤ 33
depth_small x d e = omega arith

pub bracket_is : {t : List ℕ} {names end d r : ℕ} (place : ℕ) → Ends t names end → Depth t names end d
    → r ≡ (if ltb place (level_at (get_or t (end - 1) 0)) then min 33 (1 + d) else d) → Placed t names end place r
unfolding bracketed
bracket_is {t} {names} {end} place h e k =
    k ∙ rw (e, ← level_at_lem t names end h) (cap_bracket (ltb place (level_of (expression_at t names end))) _)

module _ (t : List ℕ) (names end : ℕ) (h : Ends t names end) where
  byte : Made names (get_or t (end - 1) 0) (stack_at t names (end - 1)) (stack_at t names end)
  byte = made_last t names end (ends_pos h)

  pub leaf_depth : get_or t (end - 1) 0 < 40 → Depth t names end 0
  leaf_depth k = rw (made_leaf names _ byte h.whole k) refl

  pub one_depth : {d : ℕ} → 64 ≤ get_or t (end - 1) 0 → Placed t names (end - 1) 1 d → Depth t names end d
  one_depth k e = e ∙ rw (made_one names _ byte h.whole k) refl

  module _ {m : ℕ} (s : Start t names (end - 1) m) where
    pub pair_depth : {l x y d : ℕ} → 40 ≤ get_or t (end - 1) 0 → get_or t (end - 1) 0 < 60
        → l ≡ level_at (get_or t (end - 1) 0) → Placed t names m l x → Placed t names (end - 1) (l - 1) y
        → d ≡ max x y → Depth t names end d
    pair_depth k j i a b e =
        let g = rw (← s.left, ← i) at (made_pair names _ byte h.whole k j) in
        e ∙ rw (a, b, g, cap_max) refl

    pub three_depth : {o x y z d : ℕ} → Start t names m o → 60 ≤ get_or t (end - 1) 0 → get_or t (end - 1) 0 < 64
        → Placed t names o 5 x → Depth t names m y → Depth t names (end - 1) z → d ≡ max x (max y z)
        → Depth t names end d
    three_depth f k j a b c e =
        let g = rw (← s.left, ← f.left) at (made_three names _ byte h.whole k j) in
        e ∙ rw (a, b, c, g, cap_max, cap_max) refl
