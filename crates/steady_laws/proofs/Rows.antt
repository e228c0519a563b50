-- Document 02, [2]: the rows of steps in a chain, and what is a step.
--   or_true, or_cases            a test that one of two passes
--   row_step, row_stop           a row, by its first operand
--   some_middle, some_front, all_front     some and all of a list in parts
--   run_shift                    two neighbouring steps are in one run
--   with_inv, then_no_step, step_join      a step is no `->`, and is one by its operands
use mathlib.Core.Path.{◌≡◌, refl, ap, sym, ◌∙◌}
use mathlib.Core.Bool.{Bool, true, false, ◌&&◌, ◌||◌, or_assoc, or_comm, and_assoc}
use mathlib.Core.List.{List, [], ◌∷◌, ◌++◌}
use Rattle.basics.specs.Words.{all}
use Rattle.alf.specs.Expressions.{Vector, join}
use Rattle.alf.specs.Expressions.{Join, followed_by_join, either_order, with_or_then, any_order, with, or_else}
use Rattle.alf.specs.Steady.{is_then, is_with, is_step_lem, some_of, row, run}
use Rattle.basics.proofs.Bools.{never}

pub or_true : (p q : Bool) → q ≡ true → (p || q) ≡ true
or_true true q h = refl
or_true false q h = h

pub or_cases : (p q : Bool) {R : Type 0} → (p || q) ≡ true → (p ≡ true → R) → (q ≡ true → R) → R
or_cases true q h f g = f refl
or_cases false q h f g = g h

-- a row, by its first operand
pub row_step : (p : Vector) (ps : List Vector) → is_step_lem p ≡ true → row (p ∷ ps) ≡ p ∷ row ps
unfolding row
row_step p ps h = rw h refl

pub row_stop : (p : Vector) (ps : List Vector) → is_step_lem p ≡ false → row (p ∷ ps) ≡ []
unfolding row
row_stop p ps h = rw h refl

-- some and all of a list in parts
pub some_middle : (f : Vector → Bool) (l : List Vector) (s : Vector) (m : List Vector)
    → some_of f (l ++ (s ∷ m)) ≡ (f s || some_of f (l ++ m))
unfolding some_of
some_middle f [] s m = refl
some_middle f (x ∷ l) s m =
    ap (◌||◌ (f x)) (some_middle f l s m)
    ∙ sym (or_assoc (f x) (f s) (some_of f (l ++ m)))
    ∙ ap (λ (q : Bool). q || some_of f (l ++ m)) (or_comm (f x) (f s))
    ∙ or_assoc (f s) (f x) (some_of f (l ++ m))

pub some_front : (f : Vector → Bool) (l m : List Vector) → some_of f (l ++ m) ≡ (some_of f l || some_of f m)
unfolding some_of
some_front f [] m = refl
some_front f (x ∷ l) m = ap (◌||◌ (f x)) (some_front f l m) ∙ sym (or_assoc (f x) (some_of f l) (some_of f m))

pub all_front : (f : Vector → Bool) (l m : List Vector) → all f (l ++ m) ≡ (all f l && all f m)
unfolding all
all_front f [] m = refl
all_front f (x ∷ l) m = ap (◌&&◌ (f x)) (all_front f l m) ∙ sym (and_assoc (f x) (all f l) (all f m))

-- two neighbouring steps are in one run
pub run_shift : (f : Vector → Bool) (b : List Vector) (s o : Vector) (a : List Vector)
    → is_step_lem s ≡ true → is_step_lem o ≡ true
    → some_of f (run b s (o ∷ a)) ≡ some_of f (run (s ∷ b) o a)
unfolding run
run_shift f b s o a h k =
    rw (row_step s b h, row_step o a k) (some_middle f (row b) s (o ∷ row a) ∙ (unfold some_of in refl))

-- a step is no `->`, and is one by its operands
pub with_inv : (j : Join) → is_with j ≡ true → is_then j ≡ false
unfolding is_with is_then
with_inv followed_by_join h = never h
with_inv either_order h = never h
with_inv with_or_then h = never h
with_inv any_order h = never h
with_inv with h = refl
with_inv or_else h = never h

then_inv : (j : Join) → is_then j ≡ true → is_with j ≡ false
unfolding is_with is_then
then_inv followed_by_join h = refl
then_inv either_order h = never h
then_inv with_or_then h = never h
then_inv any_order h = never h
then_inv with h = never h
then_inv or_else h = never h

pub step_join : (j : Join) (p q p' q' : Vector) → is_step_lem p ≡ is_step_lem p' → is_step_lem q ≡ is_step_lem q'
    → is_step_lem (join j p q) ≡ is_step_lem (join j p' q')
unfolding is_step_lem
step_join j p q p' q' e d = λ i. is_with j && (e i && d i)

pub then_no_step : (j : Join) (p q : Vector) → is_then j ≡ true → is_step_lem (join j p q) ≡ false
unfolding is_step_lem
then_no_step j p q e = rw (then_inv j e) refl
