-- Document 02, [2]: filling by what is beside a part of a chain (specs/Beside.antt) is filling by the operands beside
-- it (alf/specs/Steady.antt).
--   beside                       what a list of operands comes to
--   front_beside, back_beside    and with the operands of p before it, in either direction
--   run_beside                   a step gets the same tests
--   filled_beside_lem                so the two ways to fill are one
use Rattle.std.specs.Prelude.{if◌then◌else◌}
use mathlib.Core.Path.{◌≡◌, refl, ap, sym, ◌∙◌}
use mathlib.Core.Bool.{Bool, true, false, not, ◌&&◌, ◌||◌}
use mathlib.Core.List.{List, [], ◌∷◌, ◌++◌, reverse_aux, append_assoc}
use Prim.Native.Nat.{ℕ, zero, suc}
use Rattle.basics.specs.Words.{all}
use Rattle.alf.specs.Expressions.{Vector, edge, join, while, Join}
use Rattle.alf.specs.Steady.{is_then, is_step_lem, moves, has_edge_on, some_of, operands, row, run, kept, is_steady}
use Rattle.alf.specs.Steady.{steadied, filled_in, filled}
use Rattle.steady_laws.specs.Beside.{Beside, alone, stepped, front, back, held, filled_beside}
use Rattle.steady_laws.proofs.Chains.{reverse_append}
use Rattle.steady_laws.proofs.Rows.{row_step, row_stop, some_front, all_front}

kept_same : (m : ℕ) (f g : ℕ → Bool) (p : Vector) → ((n : ℕ) → f n ≡ g n)
    → kept m f p ≡ kept m g p
kept_same m f g p h = λ i. kept m (λ n. h n i) p

kept_off : (m : ℕ) (p : Vector) → kept m (λ n. false) p ≡ p
unfolding kept
kept_off zero p = refl
kept_off (suc m) p = kept_off m p

-- what a list of operands, nearest first, comes to
unfoldable beside : List Vector → Beside
beside l = record { names = λ n. some_of (has_edge_on n) (row l); changing = all moves (row l) }

beside_none : beside [] ≡ alone
unfolding beside row some_of all
beside_none = refl

beside_step : (p : Vector) (l : List Vector) → is_step_lem p ≡ true → beside (p ∷ l) ≡ stepped p (beside l)
unfolding beside some_of all
beside_step p l h = rw (row_step p l h) refl

beside_stop : (p : Vector) (l : List Vector) → is_step_lem p ≡ false → beside (p ∷ l) ≡ alone
unfolding beside some_of all
beside_stop p l h = rw (row_stop p l h) refl

-- an operand of its own: a join that is no `->`
other_beside : (j : Join) (p q : Vector) (l : List Vector)
    → beside (join j p q ∷ l) ≡ (if is_step_lem (join j p q) then stepped (join j p q) (beside l) else alone)
other_beside j p q l = go (is_step_lem (join j p q)) refl
  where
    go : (v : Bool) → is_step_lem (join j p q) ≡ v
        → beside (join j p q ∷ l) ≡ (if v then stepped (join j p q) (beside l) else alone)
    go true h = beside_step (join j p q) l h
    go false h = beside_stop (join j p q) l h

front_beside : (p : Vector) (l : List Vector) → beside (operands p ++ l) ≡ front p (beside l)
unfolding front operands
front_beside (edge e c) l = beside_step (edge e c) l (unfold is_step_lem in refl)
front_beside (join j p q) l = go (is_then j) (front_beside p (operands q ++ l)) (front_beside q l)
  where
    go : (u : Bool) → beside (operands p ++ (operands q ++ l)) ≡ front p (beside (operands q ++ l))
        → beside (operands q ++ l) ≡ front q (beside l)
        → beside ((if u then operands p ++ operands q else join j p q ∷ []) ++ l)
        ≡ (if u then front p (front q (beside l))
        else if is_step_lem (join j p q) then stepped (join j p q) (beside l) else alone)
    go true s t = ap beside (append_assoc (operands p) (operands q) l) ∙ s ∙ ap (front p) t
    go false s t = other_beside j p q l
front_beside (while s p c) l = beside_stop (while s p c) l (unfold is_step_lem in refl)

back_beside : (p : Vector) (l : List Vector) → beside (reverse_aux (operands p) l) ≡ back p (beside l)
unfolding back operands
back_beside (edge e c) l = beside_step (edge e c) l (unfold is_step_lem in refl)
back_beside (join j p q) l = go (is_then j) (back_beside p l) (back_beside q (reverse_aux (operands p) l))
  where
    go : (u : Bool) → beside (reverse_aux (operands p) l) ≡ back p (beside l)
        → beside (reverse_aux (operands q) (reverse_aux (operands p) l)) ≡ back q (beside (reverse_aux (operands p) l))
        → beside (reverse_aux (if u then operands p ++ operands q else join j p q ∷ []) l)
        ≡ (if u then back q (back p (beside l))
        else if is_step_lem (join j p q) then stepped (join j p q) (beside l) else alone)
    go true s t = ap beside (reverse_append (operands p) (operands q) l) ∙ t ∙ ap (back q) s
    go false s t = other_beside j p q l
back_beside (while s p c) l = beside_stop (while s p c) l (unfold is_step_lem in refl)

-- a step in its run
run_beside : (b a : List Vector) (p : Vector)
    → steadied (run b p a) p ≡ kept 32 (held (beside b) p (beside a)) p
run_beside b a p = go (all moves (run b p a)) refl
  where
    changing : all moves (run b p a) ≡ (all moves (row b) && (moves p && all moves (row a)))
    changing = unfold run all in all_front moves (row b) (p ∷ row a)

    names : (n : ℕ) → some_of (has_edge_on n) (run b p a)
        ≡ (some_of (has_edge_on n) (row b) || (has_edge_on n p || some_of (has_edge_on n) (row a)))
    names n = unfold run some_of in some_front (has_edge_on n) (row b) (p ∷ row a)

    alike : (v : Bool) → all moves (run b p a) ≡ v → (n : ℕ)
        → held (beside b) p (beside a) n ≡ (v && is_steady (run b p a) p n)
    alike v e n =
        unfold held beside is_steady in
        λ i. (sym changing ∙ e) i && (sym (names n) i && not (has_edge_on n p))

    go : (v : Bool) → all moves (run b p a) ≡ v
        → steadied (run b p a) p ≡ kept 32 (held (beside b) p (beside a)) p
    go true e = (unfold steadied in rw e (kept_same 32 _ _ p (λ n. sym (alike true e n))))
    go false e =
        (unfold steadied in rw e (sym (kept_same 32 _ (λ n. false) p (alike false e) ∙ kept_off 32 p)))

filled_in_beside : (b a : List Vector) (p : Vector)
    → filled_in b a p ≡ filled_beside (beside b) (beside a) p
unfolding filled_in filled_beside
filled_in_beside b a (edge e c) = run_beside b a (edge e c)
filled_in_beside b a (join j p q) =
    go (is_then j) (is_step_lem (join j p q))
    (filled_in_beside b (operands q ++ a) p ∙ ap (λ (r : Beside). filled_beside (beside b) r p) (front_beside q a))
    (filled_in_beside (reverse_aux (operands p) b) a q
    ∙ ap (λ (r : Beside). filled_beside r (beside a) q) (back_beside p b))
    (filled_in_beside [] [] p ∙ (λ i. filled_beside (beside_none i) (beside_none i) p))
    (filled_in_beside [] [] q ∙ (λ i. filled_beside (beside_none i) (beside_none i) q))
  where
    go : {p₁ p₂ q₁ q₂ p₃ p₄ q₃ q₄ : Vector} (u v : Bool) → p₁ ≡ p₂ → q₁ ≡ q₂ → p₃ ≡ p₄ → q₃ ≡ q₄
        → (if u then join j p₁ q₁
        else if v then steadied (run b (join j p q) a) (join j p q) else join j p₃ q₃)
        ≡ (if u then join j p₂ q₂
        else if v then kept 32 (held (beside b) (join j p q) (beside a)) (join j p q) else join j p₄ q₄)
    go true v s t x y = λ i. join j (s i) (t i)
    go false true s t x y = run_beside b a (join j p q)
    go false false s t x y = λ i. join j (x i) (y i)
filled_in_beside b a (while s p c) =
    let r = filled_in_beside [] [] p ∙ (λ i. filled_beside (beside_none i) (beside_none i) p) in
    λ i. while s (r i) c

pub filled_beside_lem : (p : Vector) → filled p ≡ filled_beside alone alone p
filled_beside_lem p = filled_in_beside [] [] p ∙ λ i. filled_beside (beside_none i) (beside_none i) p
