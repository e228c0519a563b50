-- Rewriting looks into no step: where f goes through steps put together, and keeps the empty one, rewriting
-- alternatives whose steps are exchanged by f gives the rewritten ones, exchanged so.
-- Main names: each_on, rewritten_on, length_on.
use Prim.Native.Nat.{ℕ, zero, suc, ◌-◌}
use mathlib.Core.Path.{◌≡◌, refl, sym}
use mathlib.Core.List.{List, [], ◌∷◌, ◌++◌, map, map-append}
use lib.ListN.{length, get_or, length-map}
use Rattle.alf.specs.Expressions.{Join, followed_by_join, either_order, with_or_then, any_order, with, or_else}
use Rattle.alf.specs.Alternatives.{Step, Alternative, each, padded, zipped, overlaid, rewritten}

-- for each left one, each right one
module _ (g : Alternative → Alternative → Alternative) (h : Alternative → Alternative)
    (same : (x y : Alternative) → g (h x) (h y) ≡ h (g x y)) where
  each_one : (x : Alternative) (ys : List Alternative) → map (g (h x)) (map h ys) ≡ map h (map (g x) ys)
  each_one x [] = refl
  each_one x (y ∷ ys) = rw (same x y, each_one x ys) refl

  pub each_on : (xs ys : List Alternative) → each g (map h xs) (map h ys) ≡ map h (each g xs ys)
  unfolding each
  each_on [] ys = refl
  each_on (x ∷ xs) ys = rw (each_one x ys, each_on xs ys) (sym (map-append h (map (g x) ys) (each g xs ys)))

module _ (f : Step → Step) where
  abbrev pub steps_on : Alternative → Alternative
  steps_on = map f

  -- the steps of one alternative stay as many
  pub length_on : (xs : List Alternative) (t : ℕ) → length (get_or (map steps_on xs) t []) ≡ length (get_or xs t [])
  length_on [] t = refl
  length_on (x ∷ xs) zero = length-map x f
  length_on (x ∷ xs) (suc t) = length_on xs t

  module _ (none : f [] ≡ []) (both : (s t : Step) → f (s ++ t) ≡ f s ++ f t) where
    padded_on : (k : ℕ) (x : Alternative) → padded k (steps_on x) ≡ steps_on (padded k x)
    unfolding padded
    padded_on zero x = refl
    padded_on (suc k) x = rw (none, padded_on k x) refl

    zipped_on : (x y : Alternative) → zipped (steps_on x) (steps_on y) ≡ steps_on (zipped x y)
    unfolding zipped
    zipped_on [] y = refl
    zipped_on (s ∷ x) [] = refl
    zipped_on (s ∷ x) (t ∷ y) = rw (zipped_on x y, both s t) refl

    overlaid_on : (x y : Alternative) → overlaid (steps_on x) (steps_on y) ≡ steps_on (overlaid x y)
    unfolding overlaid
    overlaid_on x y =
        rw (
          length-map x f,
          length-map y f,
          padded_on (length y - length x) x,
          padded_on (length x - length y) y,
        )
        (zipped_on (padded (length y - length x) x) (padded (length x - length y) y))

    chain_on : (xs ys : List Alternative)
        → each ◌++◌ (map steps_on xs) (map steps_on ys) ≡ map steps_on (each ◌++◌ xs ys)
    chain_on = each_on ◌++◌ steps_on (λ x y. sym (map-append f x y))

    overlap_on : (xs ys : List Alternative)
        → each overlaid (map steps_on xs) (map steps_on ys) ≡ map steps_on (each overlaid xs ys)
    overlap_on = each_on overlaid steps_on overlaid_on

    both_on : {us vs : List Alternative} (xs ys : List Alternative) → us ≡ map steps_on xs
        → vs ≡ map steps_on ys → us ++ vs ≡ map steps_on (xs ++ ys)
    both_on xs ys e d = rw (e, d) (sym (map-append steps_on xs ys))

    pub rewritten_on : (j : Join) (xs ys : List Alternative)
        → rewritten j (map steps_on xs) (map steps_on ys) ≡ map steps_on (rewritten j xs ys)
    unfolding rewritten
    rewritten_on followed_by_join xs ys = chain_on xs ys
    rewritten_on either_order xs ys = both_on (each ◌++◌ xs ys) (each ◌++◌ ys xs) (chain_on xs ys) (chain_on ys xs)
    rewritten_on with_or_then xs ys =
        both_on (each overlaid xs ys) (each ◌++◌ xs ys) (overlap_on xs ys) (chain_on xs ys)
    rewritten_on any_order xs ys =
        both_on (each ◌++◌ xs ys ++ each overlaid xs ys) (each ◌++◌ ys xs)
        (both_on (each ◌++◌ xs ys) (each overlaid xs ys) (chain_on xs ys) (overlap_on xs ys)) (chain_on ys xs)
    rewritten_on with xs ys = overlap_on xs ys
    rewritten_on or_else xs ys = both_on xs ys refl refl
