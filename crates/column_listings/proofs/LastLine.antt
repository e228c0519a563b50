-- The last line of a listing: answers counted, its length, its parts.
--   how_many_is     how many answers are left where those with a number are filtered
--   last_size_lem, last_start
use Rattle.std.specs.Prelude.{if◌then◌else◌}
use Rattle.std.specs.List.{filter}
use Prim.Native.Nat.{ℕ, zero, suc, ◌+◌}
use native.Mathlib.Omega.{arith}
use mathlib.Core.Path.{◌≡◌, refl, sym, ◌∙◌}
use mathlib.Core.Bool.{Bool, true, false}
use mathlib.Core.List.{List, [], ◌∷◌, ◌++◌}
use lib.Dec.{eqb}
use lib.ListN.{length, get_or, length-append}
use Rattle.basics.specs.Words.{count}
use Rattle.basics.specs.Memory.{Room}
use Rattle.basics.proofs.PartByPart.{Going, going_start}
use Rattle.basics.specs.Text.{bytes, joined}
use Rattle.figures.specs.Numbers.{decimal}
use Rattle.figures.specs.Inner.{Wide}
use Rattle.figures.proofs.Digits.{decimal_length}
use Rattle.listing.specs.Listing.{how_many, last_line}
use Rattle.listing.specs.Inner.{Sized}

-- the first number apart
count_first : (n : ℕ) (p : ℕ → Bool) → count (suc n) p ≡ (if p 0 then 1 else 0) + count n (λ i. p (suc i))
unfolding count
count_first zero p = omega arith
count_first (suc n) p = let h = count_first n p in omega (arith, h)

-- so many answers have the number a
pub how_many_is : (answers : List ℕ) (a : ℕ) → length (filter (λ x. eqb x a) answers) ≡ how_many answers a
unfolding how_many count
how_many_is [] a = refl
how_many_is (x ∷ xs) a =
    go (eqb x a) refl (how_many_is xs a) ∙ sym (count_first (length xs) (λ i. eqb (get_or (x ∷ xs) i 0) a))
  where
    go : (b : Bool) → eqb x a ≡ b
        → length (filter (λ y. eqb y a) xs) ≡ count (length xs) (λ i. eqb (get_or xs i 0) a)
        → length (filter (λ y. eqb y a) (x ∷ xs))
        ≡ (if eqb x a then 1 else 0) + count (length xs) (λ i. eqb (get_or xs i 0) a)
    go true e rest = rw e (omega (arith, rest))
    go false e rest = rw e (omega (arith, rest))

pub last_size_lem : {yeses noes unknowns a b c : ℕ} → Wide yeses a → Wide noes b → Wide unknowns c
    → Sized (last_line yeses noes unknowns) 78 (a + b + c + 18)
unfolding last_line joined bytes
last_size_lem {yeses} {noes} {unknowns} f g h =
    record {
      is =
          omega (
            arith,
            f.is,
            g.is,
            h.is,
            decimal_length yeses,
            decimal_length noes,
            decimal_length unknowns,
            length-append (decimal yeses) (bytes " no " ++ (decimal noes ++ (bytes " unknown " ++
                (decimal unknowns ++ (10 ∷ []))))),
            length-append (decimal noes) (bytes " unknown " ++ (decimal unknowns ++ (10 ∷ []))),
            length-append (decimal unknowns) (10 ∷ []),
          );
      few = omega (arith, f.few, g.few, h.few);
    }

pub last_start : (yeses noes unknowns : ℕ) (out : List ℕ) (at : ℕ) → Room out at (last_line yeses noes unknowns)
    → Going out at (last_line yeses noes unknowns)
    (bytes "yes " ∷ decimal yeses ∷ bytes " no " ∷ decimal noes ∷ bytes " unknown " ∷ decimal unknowns
    ∷ bytes "\n" ∷ []) out at
unfolding last_line joined
last_start yeses noes unknowns out at r = going_start _ refl r
