-- Laws of single bytes: which of a name's first byte, `'` and `0 1 ?` a byte is, no two of them.
--   plain_cases     `0 1 ?` are three bytes
--   plain_unnamed, plain_unquoted, quote_unnamed   no two of them
--   half_zero       half 0 is `?`
--   and_both, contrary   two tests at once; a test with two answers
use Rattle.std.specs.Prelude.{if◌then◌else◌}
use mathlib.Core.Path.{◌≡◌, refl}
use mathlib.Core.Bool.{Bool, true, false, ◌&&◌}
use mathlib.Core.List.{[], ◌∷◌}
use mathlib.Core.Logic.{◌⊎◌, inl, inr}
use Prim.Native.Nat.{ℕ, ◌≤◌}
use native.Mathlib.Omega.{arith}
use lib.Dec.{eqb}
use borrow.Author.Tests.{eqb-true, ltb-true}
use Rattle.alf.specs.Names.{is_letter, starts_name}
use Rattle.alf.specs.States.{among}
use Rattle.token_steps.specs.Classes.{half_of}
use Rattle.token_steps.specs.Taking.{is_plain}

pub contrary : {t : Bool} → t ≡ true → t ≡ false → ⊥
contrary p q = let z : ◌≡◌ {A = ℕ} 0 1 = cc in omega arith

pub and_both : (a b : Bool) → a ≡ true → b ≡ true → a && b ≡ true
and_both a b p q = rw (p, q)

is_at_least : (t : Bool) {x y n : ℕ} → n ≤ x → n ≤ y → n ≤ (if t then x else y)
is_at_least true h k = h
is_at_least false h k = k

-- past `? 0 1` the halves are 3 and more
later :
    (a b c d e f : Bool) →
    3 ≤ (if a then 3 else if b then 4 else if c then 5 else if d then 6 else if e then 7 else if f then 8 else 9)
later a b c d e f =
    is_at_least a (omega arith)
    (is_at_least b (omega arith)
    (is_at_least c (omega arith)
    (is_at_least d (omega arith) (is_at_least e (omega arith) (is_at_least f (omega arith) (omega arith))))))

pub half_cases : (b : ℕ) → (b ≡ 63) ⊎ ((b ≡ 48) ⊎ ((b ≡ 49) ⊎ (3 ≤ half_of b)))
unfolding half_of
half_cases b = go (eqb b 63) (eqb b 48) (eqb b 49) refl refl refl
  where
    go :
        (p q r : Bool) →
        eqb b 63 ≡ p →
        eqb b 48 ≡ q →
        eqb b 49 ≡ r →
        (b ≡ 63) ⊎ ((b ≡ 48) ⊎ ((b ≡ 49) ⊎ (3 ≤ half_of b)))
    go true q r e f g = inl (eqb-true b 63 e)
    go false true r e f g = inr (inl (eqb-true b 48 f))
    go false false true e f g = inr (inr (inl (eqb-true b 49 g)))
    go false false false e f g = inr (inr (inr (rw (e, f, g) (later
        (among b (88 ∷ 120 ∷ [])) (among b (72 ∷ 104 ∷ [])) (among b (76 ∷ 108 ∷ []))
        (among b (87 ∷ 119 ∷ [])) (among b (90 ∷ 122 ∷ [])) (among b (85 ∷ 117 ∷ []))))))

pub plain_cases : (b : ℕ) → is_plain b ≡ true → (b ≡ 63) ⊎ ((b ≡ 48) ⊎ (b ≡ 49))
plain_cases b h = go (half_cases b)
  where
    go : (b ≡ 63) ⊎ ((b ≡ 48) ⊎ ((b ≡ 49) ⊎ (3 ≤ half_of b)))
        → (b ≡ 63) ⊎ ((b ≡ 48) ⊎ (b ≡ 49))
    go (inl e) = inl e
    go (inr (inl e)) = inr (inl e)
    go (inr (inr (inl e))) = inr (inr e)
    go (inr (inr (inr e))) = absurd (omega (arith, ltb-true (half_of b) 3 h))

pub plain_unnamed : (b : ℕ) → is_plain b ≡ true → starts_name b ≡ false
unfolding starts_name is_letter
plain_unnamed b h = go (plain_cases b h)
  where
    go : (b ≡ 63) ⊎ ((b ≡ 48) ⊎ (b ≡ 49)) → starts_name b ≡ false
    go (inl e) = rw e
    go (inr (inl e)) = rw e
    go (inr (inr e)) = rw e

pub plain_unquoted : (b : ℕ) → is_plain b ≡ true → eqb b 39 ≡ false
plain_unquoted b h = go (plain_cases b h)
  where
    go : (b ≡ 63) ⊎ ((b ≡ 48) ⊎ (b ≡ 49)) → eqb b 39 ≡ false
    go (inl e) = rw e
    go (inr (inl e)) = rw e
    go (inr (inr e)) = rw e

pub quote_unnamed : (b : ℕ) → b ≡ 39 → starts_name b ≡ false
unfolding starts_name is_letter
quote_unnamed b e = rw e

pub question : half_of 63 ≡ 0
unfolding half_of
question = refl

pub half_zero : (b : ℕ) → half_of b ≡ 0 → b ≡ 63
unfolding half_of
half_zero b h = go (half_cases b)
  where
    go : (b ≡ 63) ⊎ ((b ≡ 48) ⊎ ((b ≡ 49) ⊎ (3 ≤ half_of b))) → b ≡ 63
    go (inl e) = e
    go (inr (inl e)) = let z : ◌≡◌ {A = ℕ} 1 0 = rw e at h in absurd (omega arith)
    go (inr (inr (inl e))) = let z : ◌≡◌ {A = ℕ} 2 0 = rw e at h in absurd (omega arith)
    go (inr (inr (inr e))) = absurd (omega arith)
