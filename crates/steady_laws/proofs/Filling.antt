-- Document 02, [2]: what filling leaves and adds, step by step and operand by operand.
--   is_name_lem                      a plain name is name k where its number is k
--   kept-..                      p & ?- n ..: changes as p does, is a step as p is, has p's edges and the added ones
--   steadied-..                  the same of a step in its run
--   filled_of_step, step_kept    filling fills a step in its run, and keeps what is a step
--   filled_back, moves_before, moves_after     the operands beside one, filled, change as before
use Rattle.std.specs.Prelude.{if◌then◌else◌}
use mathlib.Core.Path.{◌≡◌, refl, ap, sym, ◌∙◌}
use mathlib.Core.Bool.{Bool, true, false, not, ◌&&◌, ◌||◌, or-false, and-true}
use mathlib.Core.List.{List, [], ◌∷◌}
use mathlib.Core.Logic.{◌⊎◌, inl, inr}
use Prim.Native.Nat.{ℕ, zero, suc, ◌<◌}
use native.Mathlib.Omega.{arith}
use lib.Dec.{eqb}
use borrow.Author.Tests.{eq-eqb, eqb-true}
use Rattle.basics.specs.Words.{all}
use Rattle.alf.specs.Expressions.{name, stays, Vector, edge, join, while, with}
use Rattle.alf.specs.Alternatives.{is_name}
use Rattle.alf.specs.Steady.{is_then, is_with, is_step_lem, is_changing, moves, has_edge_on, some_of, row, run, is_steady, kept}
use Rattle.alf.specs.Steady.{steadied, filled_in}
use Rattle.basics.proofs.Bools.{never, and_left, equal?}
use Rattle.steady_laws.proofs.Rows.{or_true, or_cases, row_step, row_stop, with_inv, then_no_step, step_join}
use Rattle.steady_laws.proofs.Chains.{filled_list, filled_then, filled_step, filled_other}

is_name_lem : (k n : ℕ) → is_name k (name n) ≡ eqb n k
unfolding is_name
is_name_lem k n = refl

-- what filling a step leaves: it changes as before, is a step as before, and has an edge on the added names besides
kept_moves : (n : ℕ) (f : ℕ → Bool) (p : Vector) → moves (kept n f p) ≡ moves p
unfolding kept
kept_moves zero f p = refl
kept_moves (suc n) f p = go (f n) (kept_moves n f p)
  where
    go : (q : Bool) → moves (kept n f p) ≡ moves p
        → moves (if q then join with (kept n f p) (edge stays (name n)) else kept n f p) ≡ moves p
    go true d = unfold moves is_changing in or-false (moves (kept n f p)) ∙ d
    go false d = d

kept_step : (n : ℕ) (f : ℕ → Bool) (p : Vector) → is_step_lem p ≡ true → is_step_lem (kept n f p) ≡ true
unfolding kept
kept_step zero f p h = h
kept_step (suc n) f p h = go (f n) (kept_step n f p h)
  where
    go : (q : Bool) → is_step_lem (kept n f p) ≡ true
        → is_step_lem (if q then join with (kept n f p) (edge stays (name n)) else kept n f p) ≡ true
    go true d = unfold is_step_lem is_with in and-true (is_step_lem (kept n f p)) ∙ d
    go false d = d

-- an edge on k after filling: one from before, or an added one
kept_edge : (n : ℕ) (f : ℕ → Bool) (p : Vector) (k : ℕ) → has_edge_on k (kept n f p) ≡ true
    → (has_edge_on k p ≡ true) ⊎ (f k ≡ true)
unfolding kept
kept_edge zero f p k h = inl h
kept_edge (suc n) f p k h = go (f n) refl (kept_edge n f p k) h
  where
    go : (q : Bool) → f n ≡ q → (has_edge_on k (kept n f p) ≡ true → (has_edge_on k p ≡ true) ⊎ (f k ≡ true))
        → has_edge_on k (if q then join with (kept n f p) (edge stays (name n)) else kept n f p) ≡ true
        → (has_edge_on k p ≡ true) ⊎ (f k ≡ true)
    go true e r g = two (unfold has_edge_on in g)
      where
        two : (has_edge_on k (kept n f p) || is_name k (name n)) ≡ true → (has_edge_on k p ≡ true) ⊎ (f k ≡ true)
        two d =
            or_cases (has_edge_on k (kept n f p)) (is_name k (name n)) d r
            (λ u. inr (ap f (sym (eqb-true n k (sym (is_name_lem k n) ∙ u))) ∙ e))
    go false e r g = r g

pub kept_old : (n : ℕ) (f : ℕ → Bool) (p : Vector) (k : ℕ) → has_edge_on k p ≡ true → has_edge_on k (kept n f p) ≡ true
unfolding kept
kept_old zero f p k h = h
kept_old (suc n) f p k h = go (f n) (kept_old n f p k h)
  where
    go : (q : Bool) → has_edge_on k (kept n f p) ≡ true
        → has_edge_on k (if q then join with (kept n f p) (edge stays (name n)) else kept n f p) ≡ true
    go true d = unfold has_edge_on in rw d refl
    go false d = d

pub kept_new : (n : ℕ) (f : ℕ → Bool) (p : Vector) (k : ℕ) → k < n → f k ≡ true → has_edge_on k (kept n f p) ≡ true
unfolding kept
kept_new zero f p k l h = absurd (omega arith)
kept_new (suc n) f p k l h = go (f n) refl (λ m. kept_new n f p k m h) (equal? k n)
  where
    go : (q : Bool) → f n ≡ q → (k < n → has_edge_on k (kept n f p) ≡ true) → (k ≡ n) ⊎ (k ≡ n → ⊥)
        → has_edge_on k (if q then join with (kept n f p) (edge stays (name n)) else kept n f p) ≡ true
    go true e r (inl d) =
        unfold has_edge_on in or_true (has_edge_on k (kept n f p)) (is_name k (name n)) (is_name_lem k n ∙ eq-eqb n k (sym d))
    go true e r (inr m) = unfold has_edge_on in rw (r (omega arith)) refl
    go false e r (inl d) = never (sym e ∙ ap f (sym d) ∙ h)
    go false e r (inr m) = r (omega arith)

pub kept_none : (n : ℕ) (f : ℕ → Bool) (p : Vector) → ((k : ℕ) → k < n → f k ≡ false) → kept n f p ≡ p
unfolding kept
kept_none zero f p h = refl
kept_none (suc n) f p h =
    let e = h n (omega arith) in
    rw e (kept_none n f p (λ k l. h k (omega arith)))

module _ (steps : List Vector) (p : Vector) where
  pub steadied_moves : moves (steadied steps p) ≡ moves p
  unfolding steadied
  steadied_moves = go (all moves steps)
    where
      go : (q : Bool) → moves (if q then kept 32 (is_steady steps p) p else p) ≡ moves p
      go true = kept_moves 32 (is_steady steps p) p
      go false = refl

  pub steadied_step : is_step_lem p ≡ true → is_step_lem (steadied steps p) ≡ true
  unfolding steadied
  steadied_step h = go (all moves steps)
    where
      go : (q : Bool) → is_step_lem (if q then kept 32 (is_steady steps p) p else p) ≡ true
      go true = kept_step 32 (is_steady steps p) p h
      go false = h

  -- an edge on k in a filled step: one of its own, or k has one in the run
  pub steadied_edge : (k : ℕ) → has_edge_on k (steadied steps p) ≡ true
      → (has_edge_on k p ≡ true) ⊎ (some_of (has_edge_on k) steps ≡ true)
  unfolding steadied
  steadied_edge k = go (all moves steps)
    where
      go : (q : Bool) → has_edge_on k (if q then kept 32 (is_steady steps p) p else p) ≡ true
          → (has_edge_on k p ≡ true) ⊎ (some_of (has_edge_on k) steps ≡ true)
      go true h = two (kept_edge 32 (is_steady steps p) p k h)
        where
          two : (has_edge_on k p ≡ true) ⊎ (is_steady steps p k ≡ true)
              → (has_edge_on k p ≡ true) ⊎ (some_of (has_edge_on k) steps ≡ true)
          two (inl e) = inl e
          two (inr e) = inr (and_left (some_of (has_edge_on k) steps) (not (has_edge_on k p)) (unfold is_steady in e))
      go false h = inl h

pub filled_of_step : (b a : List Vector) (p : Vector) → is_step_lem p ≡ true → filled_in b a p ≡ steadied (run b p a) p
filled_of_step b a (edge e c) h = unfold filled_in in refl
filled_of_step b a (join j p q) h =
    filled_step b a j p q (with_inv j (and_left (is_with j) (is_step_lem p && is_step_lem q) (unfold is_step_lem in h))) h
filled_of_step b a (while s p c) h = never (unfold is_step_lem in h)

pub step_kept : (b a : List Vector) (p : Vector) → is_step_lem (filled_in b a p) ≡ is_step_lem p
step_kept b a (edge e c) =
    ap is_step_lem (filled_of_step b a (edge e c) (unfold is_step_lem in refl))
    ∙ steadied_step (run b (edge e c) a) (edge e c) (unfold is_step_lem in refl)
    ∙ one
  where
    one : true ≡ is_step_lem (edge e c)
    one = unfold is_step_lem in refl
step_kept b a (join j p q) = go (is_then j) (is_step_lem (join j p q)) refl refl (step_kept [] [] p) (step_kept [] [] q)
  where
    go : (u v : Bool) → is_then j ≡ u → is_step_lem (join j p q) ≡ v → is_step_lem (filled_in [] [] p) ≡ is_step_lem p
        → is_step_lem (filled_in [] [] q) ≡ is_step_lem q
        → is_step_lem (filled_in b a (join j p q)) ≡ is_step_lem (join j p q)
    go true v e h s t = ap is_step_lem (filled_then b a j p q e) ∙ then_no_step j _ _ e ∙ sym (then_no_step j p q e)
    go false true e h s t =
        ap is_step_lem (filled_step b a j p q e h) ∙ steadied_step (run b (join j p q) a) (join j p q) h ∙ sym h
    go false false e h s t = ap is_step_lem (filled_other b a j p q e h) ∙ step_join j _ _ p q s t
step_kept b a (while s p c) = unfold filled_in is_step_lem in refl

-- the operands before one, nearest first, each filled in its place
unfoldable pub filled_back : List Vector → List Vector → List Vector
filled_back [] after = []
filled_back (o ∷ before) after = filled_in before after o ∷ filled_back before (o ∷ after)

-- the steps of a row change as before
pub moves_before : (b a : List Vector) → all moves (row (filled_back b a)) ≡ all moves (row b)
unfolding filled_back
moves_before [] a = refl
moves_before (s ∷ b) a = go (is_step_lem s) refl (moves_before b (s ∷ a))
  where
    go : (v : Bool) → is_step_lem s ≡ v → all moves (row (filled_back b (s ∷ a))) ≡ all moves (row b)
        → all moves (row (filled_in b a s ∷ filled_back b (s ∷ a))) ≡ all moves (row (s ∷ b))
    go true h r =
        rw (filled_of_step b a s h, row_step s b h, row_step _ (filled_back b (s ∷ a)) (steadied_step (run b s a) s h))
        (unfold all in λ i. steadied_moves (run b s a) s i && r i)
    go false h r = rw (row_stop s b h, row_stop (filled_in b a s) (filled_back b (s ∷ a)) (step_kept b a s ∙ h)) refl

pub moves_after : (b a : List Vector) → all moves (row (filled_list b a)) ≡ all moves (row a)
unfolding filled_list
moves_after b [] = refl
moves_after b (s ∷ a) = go (is_step_lem s) refl (moves_after (s ∷ b) a)
  where
    go : (v : Bool) → is_step_lem s ≡ v → all moves (row (filled_list (s ∷ b) a)) ≡ all moves (row a)
        → all moves (row (filled_in b a s ∷ filled_list (s ∷ b) a)) ≡ all moves (row (s ∷ a))
    go true h r =
        rw (filled_of_step b a s h, row_step s a h, row_step _ (filled_list (s ∷ b) a) (steadied_step (run b s a) s h))
        (unfold all in λ i. steadied_moves (run b s a) s i && r i)
    go false h r = rw (row_stop s a h, row_stop (filled_in b a s) (filled_list (s ∷ b) a) (step_kept b a s ∙ h)) refl
