-- Document 02, [2]: an expression so filled stays as it is when filled again.
--   names_before, names_after    the names of a run do not grow
--   again                        so a step is filled once and for all
--   back_filled                  the operands before a part, filled
--   part_stays                   a part of a chain, with the operands beside it filled, stays
--   filled_twice                 filled (filled p) is filled p
use Rattle.std.specs.Prelude.{if◌then◌else◌}
use mathlib.Core.Path.{◌≡◌, refl, sym, ◌∙◌}
use mathlib.Core.Bool.{Bool, true, false, ◌&&◌, ◌||◌}
use mathlib.Core.List.{List, [], ◌∷◌, ◌++◌, reverse_aux, append_assoc}
use mathlib.Core.Logic.{◌⊎◌, inl, inr}
use Prim.Native.Nat.{ℕ, ◌<◌}
use Rattle.basics.specs.Words.{all}
use Rattle.alf.specs.Expressions.{Vector, edge, join, while}
use Rattle.alf.specs.Steady.{is_then, is_step_lem, moves, has_edge_on, some_of, operands, row, run, is_steady, kept}
use Rattle.alf.specs.Steady.{steadied, filled_in, filled}
use Rattle.basics.proofs.Bools.{never}
use Rattle.steady_laws.proofs.Chains.{operands_then, operands_other, reverse_append, filled_list, filled_then}
use Rattle.steady_laws.proofs.Chains.{filled_other, operands_filled, filled_alone, edge_alone}
use Rattle.steady_laws.proofs.Rows.{or_cases, row_step, row_stop, some_middle, some_front, all_front}
use Rattle.steady_laws.proofs.Rows.{run_shift, step_join}
use Rattle.steady_laws.proofs.Filling.{kept_old, kept_new, kept_none, steadied_moves, steadied_step}
use Rattle.steady_laws.proofs.Filling.{steadied_edge, filled_of_step, step_kept, filled_back}
use Rattle.steady_laws.proofs.Filling.{moves_before, moves_after}

-- o is in its run
own : (f : Vector → Bool) (b : List Vector) (o : Vector) (a : List Vector) → f o ≡ true → some_of f (run b o a) ≡ true
unfolding run
own f b o a h = some_middle f (row b) o (row a) ∙ rw h refl

module _ (n : ℕ) where
  abbrev named : List Vector → Bool
  named = some_of (has_edge_on n)

  abbrev Named : List Vector → Type 0
  Named steps = named steps ≡ true

  -- an edge in a filled step is on a name of its run
  one_named : (b a : List Vector) (s : Vector) → has_edge_on n (steadied (run b s a) s) ≡ true → Named (run b s a)
  one_named b a s h = go (steadied_edge (run b s a) s n h)
    where
      go : (has_edge_on n s ≡ true) ⊎ Named (run b s a) → Named (run b s a)
      go (inl e) = own (has_edge_on n) b s a e
      go (inr e) = e

  nothing_named : {A : Type 0} → Named [] → A
  unfolding some_of
  nothing_named h = never h

  names_before : (b : List Vector) (o : Vector) (a : List Vector) → is_step_lem o ≡ true
      → Named (row (filled_back b (o ∷ a))) → Named (run b o a)
  unfolding filled_back
  names_before [] o a k g = nothing_named (unfold row in g)
  names_before (s ∷ b) o a k g = go (is_step_lem s) refl (names_before b s (o ∷ a)) g
    where
      go : (v : Bool) → is_step_lem s ≡ v
          → (is_step_lem s ≡ true → Named (row (filled_back b (s ∷ o ∷ a))) → Named (run b s (o ∷ a)))
          → Named (row (filled_in b (o ∷ a) s ∷ filled_back b (s ∷ o ∷ a))) → Named (run (s ∷ b) o a)
      go true h r d = sym (run_shift (has_edge_on n) b s o a h k) ∙ or_cases _ _ first (one_named b (o ∷ a) s) (r h)
        where
          first : (has_edge_on n (steadied (run b s (o ∷ a)) s) || named (row (filled_back b (s ∷ o ∷ a)))) ≡ true
          first =
              let e : Named (steadied (run b s (o ∷ a)) s ∷ row (filled_back b (s ∷ o ∷ a))) =
              rw (
                filled_of_step b (o ∷ a) s h,
                row_step _ (filled_back b (s ∷ o ∷ a)) (steadied_step (run b s (o ∷ a)) s h),
              ) at d in
              unfold some_of in e
      go false h r d =
          nothing_named
          (rw (row_stop (filled_in b (o ∷ a) s) (filled_back b (s ∷ o ∷ a)) (step_kept b (o ∷ a) s ∙ h)) at d)

  names_after : (b : List Vector) (o : Vector) (a : List Vector) → is_step_lem o ≡ true
      → Named (row (filled_list (o ∷ b) a)) → Named (run b o a)
  unfolding filled_list
  names_after b o [] k g = nothing_named (unfold row in g)
  names_after b o (s ∷ a) k g = go (is_step_lem s) refl (names_after (o ∷ b) s a) g
    where
      go : (v : Bool) → is_step_lem s ≡ v
          → (is_step_lem s ≡ true → Named (row (filled_list (s ∷ o ∷ b) a)) → Named (run (o ∷ b) s a))
          → Named (row (filled_in (o ∷ b) a s ∷ filled_list (s ∷ o ∷ b) a)) → Named (run b o (s ∷ a))
      go true h r d = run_shift (has_edge_on n) b o s a k h ∙ or_cases _ _ first (one_named (o ∷ b) a s) (r h)
        where
          first : (has_edge_on n (steadied (run (o ∷ b) s a) s) || named (row (filled_list (s ∷ o ∷ b) a))) ≡ true
          first =
              let e : Named (steadied (run (o ∷ b) s a) s ∷ row (filled_list (s ∷ o ∷ b) a)) =
              rw (
                filled_of_step (o ∷ b) a s h,
                row_step _ (filled_list (s ∷ o ∷ b) a) (steadied_step (run (o ∷ b) s a) s h),
              ) at d in
              unfold some_of in e
      go false h r d =
          nothing_named
          (rw (row_stop (filled_in (o ∷ b) a s) (filled_list (s ∷ o ∷ b) a) (step_kept (o ∷ b) a s ∙ h)) at d)

-- A step in its run, with the operands beside it filled: filled again it stays.
module _ (b : List Vector) (o : Vector) (a : List Vector) (k : is_step_lem o ≡ true) where
  abbrev R : List Vector
  R = run b o a

  abbrev once : Vector
  once = steadied R o

  abbrev R' : List Vector
  R' = run (filled_back b (o ∷ a)) once (filled_list (o ∷ b) a)

  same_moves : all moves R' ≡ all moves R
  unfolding run all
  same_moves =
      all_front moves (row (filled_back b (o ∷ a))) (once ∷ row (filled_list (o ∷ b) a))
      ∙ three (moves_before b (o ∷ a)) (steadied_moves R o) (moves_after (o ∷ b) a)
      ∙ sym (all_front moves (row b) (o ∷ row a))
    where
      three : {u u' v v' w w' : Bool} → u ≡ u' → v ≡ v' → w ≡ w' → (u && (v && w)) ≡ (u' && (v' && w'))
      three e d f = λ i. e i && (d i && f i)

  names_same : (n : ℕ) → Named n R' → Named n R
  unfolding run
  names_same n h =
      or_cases _ _
      (sym (some_front (has_edge_on n) (row (filled_back b (o ∷ a))) (once ∷ row (filled_list (o ∷ b) a))) ∙ h)
      (names_before n b o a k) behind
    where
      behind : Named n (once ∷ row (filled_list (o ∷ b) a)) → Named n (run b o a)
      behind g =
          or_cases (has_edge_on n once) (some_of (has_edge_on n) (row (filled_list (o ∷ b) a))) (unfold some_of in g)
          (one_named n b a o) (names_after n b o a k)

  -- where every step changes, it has an edge on each name of the run
  has_all : all moves R ≡ true → (n : ℕ) → n < 32 → Named n R → has_edge_on n once ≡ true
  unfolding steadied
  has_all e n l h = rw e (go (has_edge_on n o) refl)
    where
      go : (v : Bool) → has_edge_on n o ≡ v → has_edge_on n (kept 32 (is_steady R o) o) ≡ true
      go true d = kept_old 32 (is_steady R o) o n d
      go false d = kept_new 32 (is_steady R o) o n l (unfold is_steady in rw (h, d) refl)

  again : steadied R' once ≡ once
  unfolding steadied
  again = go (all moves R) refl
    where
      none_left : all moves R ≡ true → (n : ℕ) → n < 32 → is_steady R' once n ≡ false
      none_left e n l = two (some_of (has_edge_on n) R') refl
        where
          two : (v : Bool) → some_of (has_edge_on n) R' ≡ v → is_steady R' once n ≡ false
          two true d = unfold is_steady in rw (d, has_all e n l (names_same n d)) refl
          two false d = unfold is_steady in rw d refl

      go : (v : Bool) → all moves R ≡ v → (if all moves R' then kept 32 (is_steady R' once) once else once) ≡ once
      go true e = rw (same_moves ∙ e) (kept_none 32 (is_steady R' once) once (none_left e))
      go false e = rw (same_moves ∙ e) refl

-- The operands before a part of a chain, the part's own turned onto them, filled.
abbrev Turned : List Vector → List Vector → Vector → Type 0
Turned b a p =
    reverse_aux (operands (filled_in b a p)) (filled_back b (operands p ++ a)) ≡ filled_back (reverse_aux (operands p) b) a

back_filled : (b a : List Vector) (p : Vector) → Turned b a p
unfolding filled_back
back_filled b a (edge e c) = rw (edge_alone b a e c) (unfold operands in refl)
back_filled b a (join j p q) =
    go (is_then j) refl (back_filled b (operands q ++ a) p) (back_filled (reverse_aux (operands p) b) a q)
  where
    go : (u : Bool) → is_then j ≡ u → Turned b (operands q ++ a) p → Turned (reverse_aux (operands p) b) a q
        → Turned b a (join j p q)
    go true e s t =
        rw (
          filled_then b a j p q e,
          operands_then j p q e,
          operands_then j _ _ e,
          reverse_append (operands p) (operands q) b,
          append_assoc (operands p) (operands q) a,
          reverse_append (operands (filled_in b (operands q ++ a) p)) _ _,
          s,
        ) t
    go false e s t = rw (filled_alone b a j p q e, operands_other j p q e) refl
back_filled b a (while s p c) = unfold operands filled_in in refl

-- A part of a chain, with the operands beside it filled: filled again it stays.
abbrev Stays : List Vector → List Vector → Vector → Type 0
Stays b a p =
    filled_in (filled_back b (operands p ++ a)) (filled_list (reverse_aux (operands p) b) a) (filled_in b a p)
    ≡ filled_in b a p

step_stays : (b a : List Vector) (p : Vector) → is_step_lem p ≡ true → operands p ≡ p ∷ [] → Stays b a p
step_stays b a p h e =
    rw (e, filled_of_step b a p h)
    (filled_of_step (filled_back b (p ∷ a)) (filled_list (p ∷ b) a) _ (steadied_step (run b p a) p h)
    ∙ again b p a h)

part_stays : (b a : List Vector) (p : Vector) → Stays b a p
part_stays b a (edge e c) = step_stays b a (edge e c) (unfold is_step_lem in refl) (unfold operands in refl)
part_stays b a (join j p q) =
    go (is_then j) (is_step_lem (join j p q)) refl refl (part_stays b (operands q ++ a) p)
    (part_stays (reverse_aux (operands p) b) a q) (part_stays [] [] p) (part_stays [] [] q)
  where
    go : (u v : Bool) → is_then j ≡ u → is_step_lem (join j p q) ≡ v → Stays b (operands q ++ a) p
        → Stays (reverse_aux (operands p) b) a q → Stays [] [] p → Stays [] [] q → Stays b a (join j p q)
    go true v e h s t s' t' =
        rw (
          filled_then b a j p q e,
          operands_then j p q e,
          reverse_append (operands p) (operands q) b,
          append_assoc (operands p) (operands q) a,
        )
        (filled_then _ _ j _ _ e
        ∙ rw (operands_filled (reverse_aux (operands p) b) a q, back_filled b (operands q ++ a) p, s, t) refl)
    go false true e h s t s' t' = step_stays b a (join j p q) h (operands_other j p q e)
    go false false e h s t s' t' =
        rw (filled_other b a j p q e h)
        (filled_other _ _ j _ _ e (step_join j _ _ p q (step_kept [] [] p) (step_kept [] [] q) ∙ h)
        ∙ unfold filled_back filled_list in λ i. join j (s' i) (t' i))
part_stays b a (while s p c) = go (part_stays [] [] p)
  where
    go : Stays [] [] p → Stays b a (while s p c)
    go r = unfold filled_in filled_back filled_list in λ i. while s (r i) c

pub filled_twice : (p : Vector) → filled (filled p) ≡ filled p
unfolding filled_back filled_list
filled_twice p = part_stays [] [] p
