-- Laws of spellings: what `stands` and `size_of` answer on each of their ways.
--   other_first, one_byte, other_second, two_bytes, third_byte   `stands`
--   size_one, size_two, size_three                               `size_of`
use mathlib.Core.Path.{◌≡◌, refl, sym}
use mathlib.Core.Bool.{true, false, ◌&&◌}
use mathlib.Core.List.{List, [], ◌∷◌}
use Prim.Native.Nat.{ℕ, ◌<◌}
use native.Mathlib.Omega.{arith}
use lib.Dec.{eqb}
use lib.ListN.{length, drop}
use lib.Seq.{get_or-drop, drop-drop}
use borrow.Author.Tests.{eq-eqb, ne_eqb}
use Rattle.token_steps.specs.Taking.{byte_at}
use Rattle.token_steps.specs.Steps.{starts}
use Rattle.token_steps.specs.Inner.{word_of}
use Rattle.token_steps.proofs.ByteByByte.{and_true, starts_byte}

positive : {y : ℕ} → (y ≡ 0 → ⊥) → 0 < y
positive h = omega arith

-- up to the first zero
word_one : (x y z : ℕ) → y ≡ 0 → word_of x y z ≡ x ∷ []
unfolding word_of
word_one x y z h = rw (eq-eqb y 0 h)

word_two : (x y z : ℕ) → (y ≡ 0 → ⊥) → z ≡ 0 → word_of x y z ≡ x ∷ (y ∷ [])
unfolding word_of
word_two x y z h k = rw (ne_eqb y 0 h, eq-eqb z 0 k)

word_three : (x y z : ℕ) → (y ≡ 0 → ⊥) → (z ≡ 0 → ⊥) → word_of x y z ≡ x ∷ (y ∷ (z ∷ []))
unfolding word_of
word_three x y z h k = rw (ne_eqb y 0 h, ne_eqb z 0 k)

starts_none : (bs : List ℕ) → starts [] bs ≡ true
unfolding starts
starts_none bs = refl

module _ (x y z : ℕ) (bs : List ℕ) {a : ℕ} (hx : 0 < x) (ea : a ≡ byte_at bs 0) where
  pub other_first : (x ≡ a → ⊥) → false ≡ starts (word_of x y z) bs
  unfolding word_of
  other_first h = rw (starts_byte x _ bs hx, ← ea, ne_eqb x a h)

  module _ (ha : x ≡ a) where
    pub one_byte : y ≡ 0 → true ≡ starts (word_of x y z) bs
    one_byte h = rw (word_one x y z h, starts_byte x [] bs hx, ← ea, eq-eqb x a ha, starts_none)

    module _ (hy : y ≡ 0 → ⊥) {b : ℕ} (eb : b ≡ byte_at bs 1) where
      second : (w : List ℕ) → starts (x ∷ (y ∷ w)) bs ≡ eqb y b && starts w (drop 2 bs)
      second w =
          rw (starts_byte x (y ∷ w) bs hx, ← ea, eq-eqb x a ha)
          (rw (starts_byte y w (drop 1 bs) (positive hy), get_or-drop 1 bs 0 0, drop-drop 1 1 bs, ← eb))

      pub other_second : (y ≡ b → ⊥) → false ≡ starts (word_of x y z) bs
      unfolding word_of
      other_second h = rw (ne_eqb y 0 hy) (rw (second _, ne_eqb y b h))

      module _ (hb : y ≡ b) where
        pub two_bytes : z ≡ 0 → true ≡ starts (word_of x y z) bs
        two_bytes h = rw (word_two x y z hy h, second [], eq-eqb y b hb, starts_none)

        pub third_byte : (z ≡ 0 → ⊥) → {c : ℕ} → c ≡ byte_at bs 2 → eqb z c ≡ starts (word_of x y z) bs
        third_byte h {c} ec =
            rw (word_three x y z hy h, second (z ∷ []), eq-eqb y b hb)
            (rw (starts_byte z [] (drop 2 bs) (positive h), get_or-drop 2 bs 0 0, ← ec, starts_none)
            (sym (and_true (eqb z c))))

pub size_one : (x y z : ℕ) → y ≡ 0 → 1 ≡ length (word_of x y z)
size_one x y z h = rw (word_one x y z h)

pub size_two : (x y z : ℕ) → (y ≡ 0 → ⊥) → z ≡ 0 → 2 ≡ length (word_of x y z)
size_two x y z h k = rw (word_two x y z h k)

pub size_three : (x y z : ℕ) → (y ≡ 0 → ⊥) → (z ≡ 0 → ⊥) → 3 ≡ length (word_of x y z)
size_three x y z h k = rw (word_three x y z h k)
