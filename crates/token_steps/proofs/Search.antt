-- The first of the spellings with which some bytes begin is the longest of them.
--   in_all         what a computed test says of a list of spellings holds of each
--   starts_sound, starts_complete   to begin with w is to be w and a rest
--   found          what a search comes to: an entry with which bs begin, or none
--   found_longest  no longer entry of a list from long to short
use mathlib.Core.Path.{◌≡◌, refl}
use mathlib.Core.Bool.{Bool, true, false, ◌&&◌}
use mathlib.Core.List.{List, [], ◌∷◌, ◌++◌}
use Prim.Native.Nat.{ℕ, ◌≤◌, ◌<◌}
use Rattle.std.specs.Prelude.{Ok, Err}
use native.Mathlib.Omega.{arith}
use lib.Dec.{eqb, leb}
use lib.ListN.{length, drop}
use borrow.Author.Tests.{eqb-true, eq-eqb, leb-true}
use Rattle.basics.proofs.Bools.{and_left, and_right}
use Rattle.token_steps.specs.Spelling.{Spelling, ◌In◌}
use Rattle.token_steps.specs.Spelling.◌In◌.{here, there}
use Rattle.token_steps.specs.Steps.{Outcome, starts, first_of, step}

abbrev pub all_in : (Spelling → Bool) → List Spelling → Bool
all_in p [] = true
all_in p (e ∷ es) = p e && all_in p es

pub in_all : (p : Spelling → Bool) {e : Spelling} {es : List Spelling} → e In es → all_in p es ≡ true
    → p e ≡ true
in_all p (here {e = e}) t = and_left (p e) _ t
in_all p (there {d = d} m) t = in_all p m (and_right (p d) _ t)

pub starts_sound : (w bs : List ℕ) → starts w bs ≡ true → bs ≡ w ++ drop (length w) bs
unfolding starts
starts_sound [] bs h = refl
starts_sound (a ∷ w) [] h = let z : ◌≡◌ {A = ℕ} 0 1 = cc in absurd (omega arith)
starts_sound (a ∷ w) (b ∷ bs) h =
    cc (eqb-true a b (and_left (eqb a b) _ h), starts_sound w bs (and_right (eqb a b) _ h))

pub starts_complete : (w rest : List ℕ) → starts w (w ++ rest) ≡ true
unfolding starts
starts_complete [] rest = refl
starts_complete (a ∷ w) rest = rw (eq-eqb a a refl, starts_complete w rest)

pub data Found (es : List Spelling) (bs : List ℕ) : Outcome → Type 0 where
  hit : (e : Spelling) → e In es → starts e.bytes bs ≡ true
      → Found es bs (step e.code (length e.bytes))
  miss : ((e : Spelling) → e In es → starts e.bytes bs ≡ false) → Found es bs (Err 0)

in_length : {e : Spelling} {es : List Spelling} → e In es → 0 < length es
in_length here = omega arith
in_length (there m) = omega arith

missed :
    {d : Spelling} {es : List Spelling} (bs : List ℕ) →
    starts d.bytes bs ≡ false →
    ((e : Spelling) → e In es → starts e.bytes bs ≡ false) →
    {e : Spelling} →
    e In (d ∷ es) →
    starts e.bytes bs ≡ false
missed bs h f here = h
missed bs h f (there m) = f _ m

pub found : (es : List Spelling) (bs : List ℕ) → Found es bs (first_of es bs)
unfolding first_of
found [] bs = miss (λ e m. absurd (let z = in_length m in omega arith))
found (e ∷ es) bs = go (starts e.bytes bs) refl (found es bs)
  where
    shift : starts e.bytes bs ≡ false → {s : Outcome} → Found es bs s → Found (e ∷ es) bs s
    shift h (hit d m t) = hit d (there m) t
    shift h (miss f) = miss (λ d m. missed bs h f m)

    go : (q : Bool) → starts e.bytes bs ≡ q → Found es bs (first_of es bs)
        → Found (e ∷ es) bs (first_of (e ∷ es) bs)
    go true h f = rw h (hit e here h)
    go false h f = rw h (shift h f)

-- how many bytes a step has, 0 where it stops
abbrev pub size_of : Outcome → ℕ
size_of (Ok s) = s.size
size_of (Err k) = 0

-- from long to short, none longer than n
abbrev pub falling : ℕ → List Spelling → Bool
falling n [] = true
falling n (e ∷ es) = leb (length e.bytes) n && falling (length e.bytes) es

falling_bound : {e : Spelling} {es : List Spelling} (n : ℕ) → falling n es ≡ true → e In es
    → length e.bytes ≤ n
falling_bound n t (here {e = e}) = leb-true _ n (and_left (leb (length e.bytes) n) _ t)
falling_bound n t (there {d = d} m) =
    let k = leb-true _ n (and_left (leb (length d.bytes) n) _ t) in
    let j = falling_bound (length d.bytes) (and_right (leb (length d.bytes) n) _ t) m in
    omega arith

pub found_longest :
    {e : Spelling} {es : List Spelling} (n : ℕ) (bs : List ℕ) →
    falling n es ≡ true →
    e In es →
    starts e.bytes bs ≡ true →
    length e.bytes ≤ size_of (first_of es bs)
unfolding first_of
found_longest n bs t here s = rw s (omega arith)
found_longest {e} n bs t (there {d = d} {es = es} m) s =
    go (starts d.bytes bs) refl (found_longest (length d.bytes) bs down m s)
  where
    down : falling (length d.bytes) es ≡ true
    down = and_right (leb (length d.bytes) n) _ t

    go :
        (q : Bool) →
        starts d.bytes bs ≡ q →
        length e.bytes ≤ size_of (first_of es bs) →
        length e.bytes ≤ size_of (first_of (d ∷ es) bs)
    go true h k = rw h (falling_bound (length d.bytes) down m)
    go false h k = rw h k
