-- Document 02, [9]: the two rules for `c ? a : b` beside each other.
--   same_value, same_state   an expression with no ternary has the same value and state under any rules
--   Resolved, value_resolved, state_resolved   no ternary below a relation: the new one is the old one, or that was X
--   relation_turns           below a relation it is false: `( A ? 1 : 1 ) == 'bX` turns from 1 to 0 where A is X
use Rattle.std.specs.Prelude.{if◌then◌else◌}
use mathlib.Core.Path.{◌≡◌, refl, ap, sym, ◌∙◌}
use mathlib.Core.Bool.{Bool, true, false, ◌&&◌, ◌||◌}
use mathlib.Core.Logic.{◌⊎◌, inl, inr}
use Prim.Native.Nat.{ℕ, zero, suc, ◌+◌, ◌<◌, ◌≤◌, min, max}
use native.Mathlib.Omega.{arith}
use lib.Dec.{eqb}
use Rattle.alf.specs.declared.Rules.{Rules}
use Rattle.alf.specs.States.{X, reduce, rank, ranked, not_of_lem, and_of, or_of, xor_of, xnor_of, table, among, matches}
use Rattle.alf.specs.States.{in_cells, in_lines, relations}
use Rattle.alf.specs.Expressions.{Boolean, name, literal, negated, binary, choice}
use Rattle.alf.specs.Expressions.{Binary, and, or, xor, xnor, equals, differs, above, below, is_at_least, is_at_most}
use Rattle.alf.specs.Values.{old_rules_lem, new_rules, operate, unresolved, chosen, value, recorded_or, state}
use Rattle.basics.proofs.Bools.{never, and_left, and_right, or_yes}
use Rattle.rule_laws.specs.Ternaries.{plain, is_relation, apart}

-- "An expression with no ternary must be shown to answer alike under both"
pub same_value : (ρ ρ' : Rules) (row : ℕ → ℕ) (e : Boolean) → plain e ≡ true → value ρ row e ≡ value ρ' row e
unfolding value plain
same_value ρ ρ' row (name i) h = refl
same_value ρ ρ' row (literal l) h = refl
same_value ρ ρ' row (negated a) h = ap not_of_lem (same_value ρ ρ' row a h)
same_value ρ ρ' row (binary o a b) h =
    let p = same_value ρ ρ' row a (and_left (plain a) (plain b) h) in
    let q = same_value ρ ρ' row b (and_right (plain a) (plain b) h) in
    λ i. operate o (recorded_or row a (p i)) (recorded_or row b (q i))
same_value ρ ρ' row (choice c a b) h = never h

pub same_state : (ρ ρ' : Rules) (row : ℕ → ℕ) (e : Boolean) → plain e ≡ true → state ρ row e ≡ state ρ' row e
unfolding state
same_state ρ ρ' row e h = ap (recorded_or row e) (same_value ρ ρ' row e h)

-- Between the rules a state stays, or was X: an unknown that is resolved.
pub data Resolved (s s' : ℕ) : Type 0 where
  same : s ≡ s' → Resolved s s'
  opened : s ≡ X → Resolved s s'

not_resolved : (s s' : ℕ) → Resolved s s' → Resolved (not_of_lem s) (not_of_lem s')
not_resolved s s' (same e) = same (ap not_of_lem e)
not_resolved s s' (opened e) = opened (ap not_of_lem e ∙ unknown)
  where
    unknown : not_of_lem X ≡ X
    unknown = unfold not_of_lem reduce in refl

-- 0 & anything is 0, 1 | anything is 1
and_zero : (s : ℕ) → and_of s 0 ≡ 0
unfolding and_of reduce rank ranked
and_zero s = ap ranked (small (rank (reduce s)))
  where
    small : (r : ℕ) → min r 0 ≡ 0
    small r = omega arith

or_one : (s : ℕ) → or_of s 1 ≡ 1
unfolding or_of reduce rank ranked
or_one zero = refl
or_one (suc zero) = refl
or_one (suc (suc zero)) = refl
or_one (suc (suc (suc zero))) = refl
or_one (suc (suc (suc (suc zero)))) = refl
or_one (suc (suc (suc (suc (suc zero))))) = refl
or_one (suc (suc (suc (suc (suc (suc zero)))))) = refl
or_one (suc (suc (suc (suc (suc (suc (suc zero))))))) = refl
or_one (suc (suc (suc (suc (suc (suc (suc (suc s)))))))) = refl

-- an operator is open where X gives X, or what every state there gives
pub record Open (f : ℕ → ℕ → ℕ) : Type 0 where
  pub left : (y : ℕ) → (f X y ≡ X) ⊎ ((s : ℕ) → f X y ≡ f s y)
  pub right : (x : ℕ) → (f x X ≡ X) ⊎ ((s : ℕ) → f x X ≡ f x s)

-- one that may be turned is open on the right as on the left
turned : (f : ℕ → ℕ → ℕ) → ((x y : ℕ) → f x y ≡ f y x) → ((y : ℕ) → (f X y ≡ X) ⊎ ((s : ℕ) → f X y ≡ f s y))
    → Open f
turned f t l = record { left = l; right = λ x. go x (l x) }
  where
    go : (x : ℕ) → (f X x ≡ X) ⊎ ((s : ℕ) → f X x ≡ f s x) → (f x X ≡ X) ⊎ ((s : ℕ) → f x X ≡ f x s)
    go x (inl e) = inl (t x X ∙ e)
    go x (inr g) = inr (λ s. t x X ∙ g s ∙ t s x)

and_left_open : (y : ℕ) → (and_of X y ≡ X) ⊎ ((s : ℕ) → and_of X y ≡ and_of s y)
unfolding and_of reduce rank ranked
and_left_open zero = inr (λ s. sym (and_zero s))
and_left_open (suc zero) = inl refl
and_left_open (suc (suc zero)) = inl refl
and_left_open (suc (suc (suc zero))) = inl refl
and_left_open (suc (suc (suc (suc zero)))) = inr (λ s. sym (and_zero s))
and_left_open (suc (suc (suc (suc (suc zero))))) = inl refl
and_left_open (suc (suc (suc (suc (suc (suc zero)))))) = inl refl
and_left_open (suc (suc (suc (suc (suc (suc (suc zero))))))) = inl refl
and_left_open (suc (suc (suc (suc (suc (suc (suc (suc s)))))))) = inl refl

or_left_open : (y : ℕ) → (or_of X y ≡ X) ⊎ ((s : ℕ) → or_of X y ≡ or_of s y)
unfolding or_of reduce rank ranked
or_left_open zero = inl refl
or_left_open (suc zero) = inr (λ s. sym (or_one s))
or_left_open (suc (suc zero)) = inl refl
or_left_open (suc (suc (suc zero))) = inr (λ s. sym (or_one s))
or_left_open (suc (suc (suc (suc zero)))) = inl refl
or_left_open (suc (suc (suc (suc (suc zero))))) = inl refl
or_left_open (suc (suc (suc (suc (suc (suc zero)))))) = inl refl
or_left_open (suc (suc (suc (suc (suc (suc (suc zero))))))) = inl refl
or_left_open (suc (suc (suc (suc (suc (suc (suc (suc s)))))))) = inl refl

and_open : Open and_of
and_open = turned and_of turns and_left_open
  where
    turn : (u v : ℕ) → min u v ≡ min v u
    turn u v = omega arith

    turns : (x y : ℕ) → and_of x y ≡ and_of y x
    turns x y = unfold and_of in ap ranked (turn (rank (reduce x)) (rank (reduce y)))

or_open : Open or_of
or_open = turned or_of turns or_left_open
  where
    turn : (u v : ℕ) → max u v ≡ max v u
    turn u v = omega arith

    turns : (x y : ℕ) → or_of x y ≡ or_of y x
    turns x y = unfold or_of in ap ranked (turn (rank (reduce x)) (rank (reduce y)))

xor_open : Open xor_of
unfolding xor_of reduce
xor_open = record { left = λ y. inl refl; right = λ x. inl (rw (or_yes (eqb (reduce x) X)) refl) }

xnor_open : Open xnor_of
unfolding xnor_of reduce
xnor_open = record { left = λ y. inl refl; right = λ x. inl (rw (or_yes (eqb (reduce x) X)) refl) }

module _ (f : ℕ → ℕ → ℕ) (o : Open f) (x x' y y' : ℕ) where
  open_resolved : Resolved x x' → Resolved y y' → Resolved (f x y) (f x' y')
  open_resolved (same e) (same d) = same (λ i. f (e i) (d i))
  open_resolved (same e) (opened d) = go (o.right x)
    where
      go : (f x X ≡ X) ⊎ ((s : ℕ) → f x X ≡ f x s) → Resolved (f x y) (f x' y')
      go (inl k) = opened (ap (f x) d ∙ k)
      go (inr g) = same (ap (f x) d ∙ g y' ∙ ap (λ (z : ℕ). f z y') e)
  open_resolved (opened e) q = go (o.left y)
    where
      far : Resolved y y' → f X y ≡ f x' y → Resolved (f x y) (f x' y')
      far (same d) k = same (ap (λ (z : ℕ). f z y) e ∙ k ∙ ap (f x') d)
      far (opened d) k = farther (o.right x')
        where
          farther : (f x' X ≡ X) ⊎ ((s : ℕ) → f x' X ≡ f x' s) → Resolved (f x y) (f x' y')
          farther (inl m) = opened (ap (λ (z : ℕ). f z y) e ∙ k ∙ ap (f x') d ∙ m)
          farther (inr g) = same (ap (λ (z : ℕ). f z y) e ∙ k ∙ ap (f x') d ∙ g y')

      go : (f X y ≡ X) ⊎ ((s : ℕ) → f X y ≡ f s y) → Resolved (f x y) (f x' y')
      go (inl k) = opened (ap (λ (z : ℕ). f z y) e ∙ k)
      go (inr g) = far q (g x')

recorded_resolved : (row : ℕ → ℕ) (e : Boolean) (v v' : ℕ) → Resolved v v'
    → Resolved (recorded_or row e v) (recorded_or row e v')
unfolding recorded_or
recorded_resolved row (name i) v v' r = same refl
recorded_resolved row (literal l) v v' r = r
recorded_resolved row (negated a) v v' r = r
recorded_resolved row (binary o a b) v v' r = r
recorded_resolved row (choice c a b) v v' r = r

-- by the old rule X, whatever the branches are
old_unresolved : (x y : ℕ) → unresolved old_rules_lem x y ≡ X
unfolding unresolved
old_unresolved x y = go (eqb x y)
  where
    go : (w : Bool) → (if w && false then x else X) ≡ X
    go true = refl
    go false = refl

choice_resolved : (c c' x x' y y' : ℕ) → Resolved c c' → Resolved x x' → Resolved y y'
    → Resolved (chosen old_rules_lem c x y) (chosen new_rules c' x' y')
unfolding chosen
choice_resolved c c' x x' y y' (opened e) p q = opened (rw e (unfold reduce in old_unresolved x y))
choice_resolved c c' x x' y y' (same e) p q = rw (← e) (go (eqb (reduce c) X) (eqb (reduce c) 1))
  where
    go : (u v : Bool)
        → Resolved (if u then unresolved old_rules_lem x y else if v then x else y)
        (if u then unresolved new_rules x' y' else if v then x' else y')
    go true v = opened (old_unresolved x y)
    go false true = p
    go false false = q

module _ (row : ℕ → ℕ) where
  abbrev Same : Boolean → Type 0
  Same e = Resolved (state old_rules_lem row e) (state new_rules row e)

  binary_resolved : (o : Binary) (a b : Boolean)
      → ((if is_relation o then plain a && plain b else apart a && apart b) ≡ true)
      → (apart a ≡ true → Same a) → (apart b ≡ true → Same b)
      → Resolved (operate o (state old_rules_lem row a) (state old_rules_lem row b))
      (operate o (state new_rules row a) (state new_rules row b))
  unfolding is_relation
  binary_resolved o a b h p q = go o h
    where
      alike : (plain a && plain b) ≡ true → (f : ℕ → ℕ → ℕ)
          → Resolved (f (state old_rules_lem row a) (state old_rules_lem row b))
          (f (state new_rules row a) (state new_rules row b))
      alike k f =
          let u = same_state old_rules_lem new_rules row a (and_left (plain a) (plain b) k) in
          let v = same_state old_rules_lem new_rules row b (and_right (plain a) (plain b) k) in
          same (λ i. f (u i) (v i))

      both : (apart a && apart b) ≡ true → (f : ℕ → ℕ → ℕ) → Open f
          → Resolved (f (state old_rules_lem row a) (state old_rules_lem row b))
          (f (state new_rules row a) (state new_rules row b))
      both k f d =
          open_resolved f d _ _ _ _ (p (and_left (apart a) (apart b) k)) (q (and_right (apart a) (apart b) k))

      go : (r : Binary) → ((if is_relation r then plain a && plain b else apart a && apart b) ≡ true)
          → Resolved (operate r (state old_rules_lem row a) (state old_rules_lem row b))
          (operate r (state new_rules row a) (state new_rules row b))
      go and k = unfold operate in both k and_of and_open
      go or k = unfold operate in both k or_of or_open
      go xor k = unfold operate in both k xor_of xor_open
      go xnor k = unfold operate in both k xnor_of xnor_open
      go equals k = alike k (operate equals)
      go differs k = alike k (operate differs)
      go above k = alike k (operate above)
      go below k = alike k (operate below)
      go is_at_least k = alike k (operate is_at_least)
      go is_at_most k = alike k (operate is_at_most)

  pub value_resolved : (e : Boolean) → apart e ≡ true → Resolved (value old_rules_lem row e) (value new_rules row e)
  unfolding value state apart
  value_resolved (name i) h = same refl
  value_resolved (literal l) h = same refl
  value_resolved (negated a) h = not_resolved _ _ (value_resolved a h)
  value_resolved (binary o a b) h =
      binary_resolved o a b h (λ k. recorded_resolved row a _ _ (value_resolved a k))
      (λ k. recorded_resolved row b _ _ (value_resolved b k))
  value_resolved (choice c a b) h =
      choice_resolved _ _ _ _ _ _
      (value_resolved c (and_left (apart c) (apart a && apart b) h))
      (value_resolved a (and_left (apart a) (apart b) (and_right (apart c) _ h)))
      (value_resolved b (and_right (apart a) (apart b) (and_right (apart c) _ h)))

  pub state_resolved : (e : Boolean) → apart e ≡ true → Resolved (state old_rules_lem row e) (state new_rules row e)
  unfolding state
  state_resolved e h = recorded_resolved row e _ _ (value_resolved e h)

-- Below a relation it is false.
abbrev pub related : Boolean
related = binary equals (choice (name 0) (literal 1) (literal 1)) (literal X)

pub relation_turns : (value old_rules_lem (λ n. X) related ≡ 1) × (value new_rules (λ n. X) related ≡ 0)
unfolding value recorded_or operate chosen unresolved reduce relations table in_lines in_cells among matches
relation_turns = (refl, refl)
