-- Document 02, [2]: an expression with no run of two or more steps is its own filling.
--   one_step                     a step that is a run by itself gets no test
--   part_lone                    a part of a chain of which no two neighbours are both steps
--   lone_filled                  the expression
use Rattle.std.specs.Prelude.{if◌then◌else◌}
use mathlib.Core.Path.{◌≡◌, refl, ap, sym, ◌∙◌}
use mathlib.Core.Bool.{Bool, true, false, not, ◌&&◌, ◌||◌}
use mathlib.Core.List.{List, [], ◌∷◌, ◌++◌, reverse_aux, append-nil, append_assoc}
use Prim.Native.Nat.{ℕ}
use Rattle.basics.specs.Words.{all}
use Rattle.alf.specs.Expressions.{Vector, edge, join, while}
use Rattle.alf.specs.Steady.{is_then, is_step_lem, moves, has_edge_on, some_of, operands, row, run, is_steady, kept}
use Rattle.alf.specs.Steady.{steadied, filled_in, filled}
use Rattle.basics.proofs.Bools.{never, and_left, and_right}
use Rattle.steady_laws.specs.Lone.{spaced, lone}
use Rattle.steady_laws.proofs.Rows.{row_stop}
use Rattle.steady_laws.proofs.Chains.{operands_then, operands_other, filled_then, filled_other}
use Rattle.steady_laws.proofs.Filling.{kept_none, filled_of_step}

-- each plain name of such a run has its edge in the step itself
none_steady : (p : Vector) (n : ℕ) → is_steady (p ∷ []) p n ≡ false
unfolding is_steady some_of
none_steady p n = go (has_edge_on n p)
  where
    go : (q : Bool) → ((q || false) && not q) ≡ false
    go true = refl
    go false = refl

one_step : (p : Vector) → steadied (p ∷ []) p ≡ p
unfolding steadied
one_step p = go (all moves (p ∷ []))
  where
    go : (q : Bool) → (if q then kept 32 (is_steady (p ∷ []) p) p else p) ≡ p
    go true = kept_none 32 (is_steady (p ∷ []) p) p (λ n l. none_steady p n)
    go false = refl

-- of two neighbours one is no step
spaced_tail : (p : Vector) (ps : List Vector) → spaced (p ∷ ps) ≡ true → spaced ps ≡ true
unfolding spaced
spaced_tail p [] h = refl
spaced_tail p (q ∷ ps) h = and_right (not (is_step_lem p && is_step_lem q)) (spaced (q ∷ ps)) h

spaced_back : (b a : List Vector) → spaced (reverse_aux b a) ≡ true → spaced a ≡ true
spaced_back [] a h = h
spaced_back (p ∷ b) a h = spaced_tail p a (spaced_back b (p ∷ a) h)

apart_left : (p q : Bool) → not (p && q) ≡ true → q ≡ true → p ≡ false
apart_left true true h k = never h
apart_left true false h k = never k
apart_left false q h k = refl

apart_right : (p q : Bool) → not (p && q) ≡ true → p ≡ true → q ≡ false
apart_right true true h k = never h
apart_right true false h k = refl
apart_right false q h k = never k

row_after : (p : Vector) (a : List Vector) → is_step_lem p ≡ true → spaced (p ∷ a) ≡ true → row a ≡ []
unfolding spaced
row_after p [] k h = unfold row in refl
row_after p (q ∷ a) k h =
    row_stop q a (apart_right (is_step_lem p) (is_step_lem q) (and_left (not (is_step_lem p && is_step_lem q)) (spaced (q ∷ a)) h) k)

row_before : (b : List Vector) (p : Vector) (a : List Vector) → is_step_lem p ≡ true
    → spaced (reverse_aux b (p ∷ a)) ≡ true → row b ≡ []
unfolding spaced
row_before [] p a k h = unfold row in refl
row_before (q ∷ b) p a k h =
    row_stop q b
    (apart_left (is_step_lem q) (is_step_lem p)
    (and_left (not (is_step_lem q && is_step_lem p)) (spaced (p ∷ a)) (spaced_back b (q ∷ p ∷ a) h)) k)

-- a step of a chain
step_lone : (b a : List Vector) (p : Vector) → is_step_lem p ≡ true → spaced (reverse_aux b (p ∷ a)) ≡ true
    → filled_in b a p ≡ p
unfolding run
step_lone b a p k h =
    filled_of_step b a p k
    ∙ rw (row_before b p a k h, row_after p a k (spaced_back b (p ∷ a) h)) (one_step p)

-- the operands of a chain, in the order written
turned : {A : Type 0} (l b m : List A) → reverse_aux (reverse_aux l b) m ≡ reverse_aux b (l ++ m)
turned [] b m = refl
turned (x ∷ l) b m = turned l (x ∷ b) m

lone_spaced : (p : Vector) → lone p ≡ true → spaced (operands p ++ []) ≡ true
lone_spaced p h = ap spaced (append-nil (operands p)) ∙ go p h
  where
    go : (p : Vector) → lone p ≡ true → spaced (operands p) ≡ true
    go (edge e c) h = unfold operands spaced in refl
    go (join j p q) h = and_left (spaced (operands (join j p q))) (lone p && lone q) (unfold lone in h)
    go (while s p c) h = unfold operands spaced in refl

part_lone : (b a : List Vector) (p : Vector) → lone p ≡ true → spaced (reverse_aux b (operands p ++ a)) ≡ true
    → filled_in b a p ≡ p
part_lone b a (edge e c) l h = step_lone b a (edge e c) (unfold is_step_lem in refl) (unfold operands in h)
part_lone b a (join j p q) l h =
    go (is_then j) (is_step_lem (join j p q)) refl refl (part_lone b (operands q ++ a) p left)
    (part_lone (reverse_aux (operands p) b) a q right) (part_lone [] [] p left (lone_spaced p left))
    (part_lone [] [] q right (lone_spaced q right))
  where
    both : (lone p && lone q) ≡ true
    both = and_right (spaced (operands (join j p q))) (lone p && lone q) (unfold lone in l)

    left : lone p ≡ true
    left = and_left (lone p) (lone q) both

    right : lone q ≡ true
    right = and_right (lone p) (lone q) both

    go : (u v : Bool) → is_then j ≡ u → is_step_lem (join j p q) ≡ v
        → (spaced (reverse_aux b (operands p ++ (operands q ++ a))) ≡ true → filled_in b (operands q ++ a) p ≡ p)
        → (spaced (reverse_aux (reverse_aux (operands p) b) (operands q ++ a)) ≡ true
        → filled_in (reverse_aux (operands p) b) a q ≡ q)
        → filled p ≡ p → filled q ≡ q → filled_in b a (join j p q) ≡ join j p q
    go true v e k s t s' t' =
        let d = s whole in
        let f = t (ap spaced (turned (operands p) b (operands q ++ a)) ∙ whole) in
        filled_then b a j p q e ∙ λ i. join j (d i) (f i)
      where
        whole : spaced (reverse_aux b (operands p ++ (operands q ++ a))) ≡ true
        whole =
            ap (λ (l : List Vector). spaced (reverse_aux b l))
            (sym (append_assoc (operands p) (operands q) a)
            ∙ ap (λ (l : List Vector). l ++ a) (sym (operands_then j p q e)))
            ∙ h
    go false true e k s t s' t' =
        step_lone b a (join j p q) k
        (ap (λ (l : List Vector). spaced (reverse_aux b (l ++ a))) (sym (operands_other j p q e)) ∙ h)
    go false false e k s t s' t' = filled_other b a j p q e k ∙ λ i. join j (s' i) (t' i)
part_lone b a (while s p c) l h = go (part_lone [] [] p (unfold lone in l))
  where
    go : (spaced (operands p ++ []) ≡ true → filled p ≡ p) → filled_in b a (while s p c) ≡ while s p c
    go r = let e = r (lone_spaced p (unfold lone in l)) in unfold filled_in in λ i. while s (e i) c

pub lone_filled : (p : Vector) → lone p ≡ true → filled p ≡ p
lone_filled p h = part_lone [] [] p h (lone_spaced p h)
