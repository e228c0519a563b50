-- Document 02, [2]: what filling does to the alternatives, and so to everything that is defined by them.
--   Fills, FillsEach, FillsAll   a step with some `?-` added and nothing else; so each step; so each alternative
--   filled_fills                 the alternatives of the filled expression: as many, of as many steps, each so filled
--   step_one, kept_one           a step is one alternative of one step: its written tests, then the added ones by
--                                rising name
use Rattle.std.specs.Prelude.{if◌then◌else◌}
use mathlib.Core.Path.{◌≡◌, refl, ap, ◌∙◌}
use mathlib.Core.Bool.{Bool, true, false, ◌&&◌}
use mathlib.Core.List.{List, [], ◌∷◌, ◌++◌, map, reverse_aux, append-nil, append_assoc}
use Prim.Native.Nat.{ℕ, zero, suc, ◌-◌}
use lib.ListN.{length, replicate}
use Rattle.basics.specs.Words.{all}
use Rattle.alf.specs.Expressions.{Boolean, name, Edge, stays, Vector, edge, join, while}
use Rattle.alf.specs.Expressions.{Side, Join, followed_by_join, either_order, with_or_then, any_order, with, or_else}
use Rattle.alf.specs.Alternatives.{Test, test, Step, Alternative, each, padded, zipped, overlaid, conditioned}
use Rattle.alf.specs.Alternatives.{chained, overlapped, rewritten, alternatives}
use Rattle.alf.specs.Steady.{is_then, is_with, is_step_lem, moves, is_steady, kept, steadied, run, operands}
use Rattle.alf.specs.Steady.{filled_in, filled}
use Rattle.basics.proofs.Bools.{never, and_left, and_right}

-- t is s with some `?-` added
pub data Fills : Step → Step → Type 0 where
  done : Fills [] []
  keep : {x : Test} {s t : Step} → Fills s t → Fills (x ∷ s) (x ∷ t)
  add : {c : Boolean} {s t : Step} → Fills s t → Fills s (test stays c ∷ t)

-- two lists, entry by entry
pub data Both {A : Type 0} (R : A → A → Type 0) : List A → List A → Type 0 where
  none : Both R [] []
  more : {x y : A} {xs ys : List A} → R x y → Both R xs ys → Both R (x ∷ xs) (y ∷ ys)

abbrev pub FillsEach : Alternative → Alternative → Type 0
FillsEach = Both Fills

abbrev pub FillsAll : List Alternative → List Alternative → Type 0
FillsAll = Both FillsEach

fills_same : (s : Step) → Fills s s
fills_same [] = done
fills_same (x ∷ s) = keep (fills_same s)

fills_behind : (s : Step) {t : Step} → Fills [] t → Fills s (s ++ t)
fills_behind [] f = f
fills_behind (x ∷ s) f = keep (fills_behind s f)

fills_append : {s t s' t' : Step} → Fills s t → Fills s' t' → Fills (s ++ s') (t ++ t')
fills_append done g = g
fills_append (keep f) g = keep (fills_append f g)
fills_append (add f) g = add (fills_append f g)

module _ {A : Type 0} {R : A → A → Type 0} where
  pub both_same : ((x : A) → R x x) → (xs : List A) → Both R xs xs
  both_same h [] = none
  both_same h (x ∷ xs) = more (h x) (both_same h xs)

  pub both_append : {xs ys xs' ys' : List A} → Both R xs ys → Both R xs' ys' → Both R (xs ++ xs') (ys ++ ys')
  both_append none t = t
  both_append (more r s) t = more r (both_append s t)

  both_map : {xs ys : List A} (f g : A → A) → ((x y : A) → R x y → R (f x) (g y)) → Both R xs ys
      → Both R (map f xs) (map g ys)
  both_map f g h none = none
  both_map f g h (more {x = x} {y = y} r s) = more (h x y r) (both_map f g h s)

  pub both_length : {xs ys : List A} → Both R xs ys → length xs ≡ length ys
  both_length none = refl
  both_length (more r s) = ap suc (both_length s)

pub fills_all_same : (xs : List Alternative) → FillsAll xs xs
fills_all_same = both_same (both_same fills_same)

each_fills : {xs xs' ys ys' : List Alternative} (f : Alternative → Alternative → Alternative)
    → ((x x' y y' : Alternative) → FillsEach x x' → FillsEach y y' → FillsEach (f x y) (f x' y'))
    → FillsAll xs xs' → FillsAll ys ys' → FillsAll (each f xs ys) (each f xs' ys')
unfolding each
each_fills f h none t = none
each_fills f h (more {x = x} {y = x'} r s) t =
    both_append (both_map (f x) (f x') (λ y y' g. h x x' y y' r g) t) (each_fills f h s t)

empty_fills : (k : ℕ) → FillsEach (replicate k []) (replicate k [])
empty_fills zero = none
empty_fills (suc k) = more done (empty_fills k)

zipped_fills : {x x' y y' : Alternative} → FillsEach x x' → FillsEach y y' → FillsEach (zipped x y) (zipped x' y')
unfolding zipped
zipped_fills none t = t
zipped_fills (more r s) none = more r s
zipped_fills (more r s) (more g t) = more (fills_append r g) (zipped_fills s t)

overlaid_fills : (x x' y y' : Alternative) → FillsEach x x' → FillsEach y y'
    → FillsEach (overlaid x y) (overlaid x' y')
unfolding overlaid padded
overlaid_fills x x' y y' s t =
    rw (← both_length s, ← both_length t)
    (zipped_fills (both_append (empty_fills (length y - length x)) s)
    (both_append (empty_fills (length x - length y)) t))

conditioned_fills : (c : Boolean) (x x' : Alternative) → FillsEach x x'
    → FillsEach (conditioned c x) (conditioned c x')
unfolding conditioned
conditioned_fills c x x' s = both_map _ _ (λ u v f. fills_append f (fills_same _)) s

chained_fills : {xs xs' ys ys' : List Alternative} → FillsAll xs xs' → FillsAll ys ys'
    → FillsAll (chained xs ys) (chained xs' ys')
chained_fills = each_fills ◌++◌ (λ x x' y y' s t. both_append s t)

overlapped_fills : {xs xs' ys ys' : List Alternative} → FillsAll xs xs' → FillsAll ys ys'
    → FillsAll (overlapped xs ys) (overlapped xs' ys')
overlapped_fills = each_fills overlaid overlaid_fills

rewritten_fills : (j : Join) {xs xs' ys ys' : List Alternative} → FillsAll xs xs' → FillsAll ys ys'
    → FillsAll (rewritten j xs ys) (rewritten j xs' ys')
unfolding rewritten
rewritten_fills followed_by_join s t = chained_fills s t
rewritten_fills either_order s t = both_append (chained_fills s t) (chained_fills t s)
rewritten_fills with_or_then s t = both_append (overlapped_fills s t) (chained_fills s t)
rewritten_fills any_order s t =
    both_append (both_append (chained_fills s t) (overlapped_fills s t)) (chained_fills t s)
rewritten_fills with s t = overlapped_fills s t
rewritten_fills or_else s t = both_append s t

-- A step is one alternative of one step; its added tests stand behind its own, by rising name.
abbrev pub One : Vector → Step → Type 0
One p s = alternatives p ≡ (s ∷ []) ∷ []

one_with : (p q : Vector) (s t : Step) → One p s → One q t → One (join with p q) (s ++ t)
unfolding alternatives rewritten each overlaid padded zipped
one_with p q s t e d = rw (e, d) refl

is_with_inv : (j : Join) → is_with j ≡ true → j ≡ with
unfolding is_with
is_with_inv followed_by_join h = never h
is_with_inv either_order h = never h
is_with_inv with_or_then h = never h
is_with_inv any_order h = never h
is_with_inv with h = refl
is_with_inv or_else h = never h

-- the written tests of a step
unfoldable pub written : Vector → Step
written (edge e c) = test e c ∷ []
written (join j p q) = written p ++ written q
written (while s p c) = written p

edge_one : (e : Edge) (c : Boolean) → One (edge e c) (test e c ∷ [])
unfolding alternatives
edge_one e c = refl

pub step_one : (p : Vector) → is_step_lem p ≡ true → One p (written p)
unfolding is_step_lem written
step_one (edge e c) h = edge_one e c
step_one (join j p q) h =
    let w = is_with_inv j (and_left (is_with j) (is_step_lem p && is_step_lem q) h) in
    let r = and_right (is_with j) (is_step_lem p && is_step_lem q) h in
    let d = one_with p q (written p) (written q) (step_one p (and_left (is_step_lem p) (is_step_lem q) r))
    (step_one q (and_right (is_step_lem p) (is_step_lem q) r)) in
    ap (λ (k : Join). alternatives (join k p q)) w ∙ d
step_one (while u p c) h = never h

-- the tests `?- n`, for each name n below a number that passes the test, rising
unfoldable pub steady_tests : ℕ → (ℕ → Bool) → Step
steady_tests zero f = []
steady_tests (suc n) f = steady_tests n f ++ (if f n then test stays (name n) ∷ [] else [])

steady_tests_lem : (n : ℕ) (f : ℕ → Bool) → Fills [] (steady_tests n f)
unfolding steady_tests
steady_tests_lem zero f = done
steady_tests_lem (suc n) f = fills_append {s = []} (steady_tests_lem n f) (go (f n))
  where
    go : (q : Bool) → Fills [] (if q then test stays (name n) ∷ [] else [])
    go true = add done
    go false = done

pub kept_one : (n : ℕ) (f : ℕ → Bool) (p : Vector) (s : Step) → One p s → One (kept n f p) (s ++ steady_tests n f)
unfolding kept steady_tests
kept_one zero f p s e = rw (append-nil s) e
kept_one (suc n) f p s e = go (f n) (kept_one n f p s e)
  where
    go : (q : Bool) → One (kept n f p) (s ++ steady_tests n f)
        → One (if q then join with (kept n f p) (edge stays (name n)) else kept n f p)
        (s ++ (steady_tests n f ++ (if q then test stays (name n) ∷ [] else [])))
    go true d =
        one_with (kept n f p) (edge stays (name n)) (s ++ steady_tests n f) (test stays (name n) ∷ []) d
        (edge_one stays (name n))
        ∙ ap (λ (u : Step). (u ∷ []) ∷ []) (append_assoc s (steady_tests n f) (test stays (name n) ∷ []))
    go false d = rw (append-nil (steady_tests n f)) d

-- p' is p with filled steps
pub record Filled (p p' : Vector) : Type 0 where
  pub fills : FillsAll (alternatives p) (alternatives p')

join_filled : (j : Join) {p p' q q' : Vector} → Filled p p' → Filled q q' → Filled (join j p q) (join j p' q')
unfolding alternatives
join_filled j s t = record { fills = rewritten_fills j s.fills t.fills }

while_filled : (s : Side) {p p' : Vector} (c : Boolean) → Filled p p' → Filled (while s p c) (while s p' c)
unfolding alternatives
while_filled s c f =
    record { fills = both_map (conditioned c) (conditioned c) (conditioned_fills c) f.fills }

-- "gets `?-`": the written tests of a step, then the added ones
steadied_fills : (steps : List Vector) (p : Vector) → is_step_lem p ≡ true
    → FillsAll (alternatives p) (alternatives (steadied steps p))
unfolding steadied
steadied_fills steps p h = go (all moves steps)
  where
    one : One p (written p)
    one = step_one p h

    go : (q : Bool)
        → FillsAll (alternatives p) (alternatives (if q then kept 32 (is_steady steps p) p else p))
    go true =
        rw (one, kept_one 32 (is_steady steps p) p (written p) one)
        (more (more (fills_behind (written p) (steady_tests_lem 32 (is_steady steps p))) none) none)
    go false = rw one (more (more (fills_same (written p)) none) none)

-- the alternatives of the filled expression: as many, of as many steps, each step filled
fills_in : (before after : List Vector) (p : Vector) → Filled p (filled_in before after p)
unfolding filled_in
fills_in before after (edge e c) = record { fills = steadied_fills _ (edge e c) (unfold is_step_lem in refl) }
fills_in before after (join j p q) =
    go (is_then j) (is_step_lem (join j p q)) refl
    (join_filled j (fills_in before (operands q ++ after) p) (fills_in (reverse_aux (operands p) before) after q))
    (join_filled j (fills_in [] [] p) (fills_in [] [] q))
  where
    go : {r₁ r₂ : Vector} (u v : Bool) → is_step_lem (join j p q) ≡ v → Filled (join j p q) r₁ → Filled (join j p q) r₂
        → Filled (join j p q)
        (if u then r₁ else if v then steadied (run before (join j p q) after) (join j p q) else r₂)
    go true v e s t = s
    go false true e s t = record { fills = steadied_fills _ (join j p q) e }
    go false false e s t = t
fills_in before after (while s p c) = while_filled s c (fills_in [] [] p)

pub filled_fills : (p : Vector) → FillsAll (alternatives p) (alternatives (filled p))
filled_fills p = (fills_in [] [] p).fills
