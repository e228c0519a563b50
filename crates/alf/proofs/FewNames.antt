-- A name's byte is below 32, so more than 32 names are as good as 32. So the stack that bytes build says of any bytes
-- and any number of names what `Encodes` says.
--   stack_few, decodes_few               more than 32 names
--   decodes_encoded, encoded_decodes     the bytes are these of the expression exactly where the stack has it alone
use Prim.Native.Nat.{ℕ, zero, suc, ◌<◌, ◌≤◌, min}
use native.Mathlib.Omega.{arith}
use mathlib.Core.Path.{◌≡◌, refl, sym, ◌∙◌}
use mathlib.Core.Logic.{◌⊎◌, inl, inr}
use mathlib.Core.List.{List}
use lib.ListN.{length, get_or}
use borrow.Author.Tests.{lt-ltb, le-ltb}
use Rattle.alf.specs.Expressions.{Expression}
use Rattle.alf.specs.Bytes.{Encodes}
use Rattle.alf.specs.Decoder.{leaf_at, operation_at, stack_at, Decodes}
use Rattle.basics.proofs.Bools.{below?}
use Rattle.alf.proofs.Encoding.{decode_bytes}
use Rattle.alf.proofs.Decoding.{bytes_decode, decode_over}

-- a name's byte is below 32
leaf_few : (names b : ℕ) → leaf_at names b ≡ leaf_at (min names 32) b
unfolding leaf_at
leaf_few names b = go (below? b 32) (below? b names)
  where
    go : (b < 32) ⊎ (32 ≤ b) → (b < names) ⊎ (names ≤ b) → leaf_at names b ≡ leaf_at (min names 32) b
    go (inl h) (inl k) =
        let j : b < min names 32 = omega arith in
        rw (lt-ltb _ _ h, lt-ltb _ _ k, lt-ltb _ _ j) refl
    go (inl h) (inr k) =
        let j : min names 32 ≤ b = omega arith in
        rw (lt-ltb _ _ h, le-ltb _ _ k, le-ltb _ _ j) refl
    go (inr h) k = rw (le-ltb _ _ h) refl

operation_few : (names b : ℕ) → operation_at names b ≡ operation_at (min names 32) b
unfolding operation_at
operation_few names b = rw (leaf_few names b) refl

pub stack_few : (t : List ℕ) (names n : ℕ) → stack_at t names n ≡ stack_at t (min names 32) n
unfolding stack_at
stack_few t names zero = refl
stack_few t names (suc n) = rw (operation_few names (get_or t n 0), stack_few t names n) refl

pub decodes_few : (w : List ℕ) (names : ℕ) (e : Expression) → Decodes names w e → Decodes (min names 32) w e
unfolding Decodes
decodes_few w names e h = sym (stack_few w names (length w)) ∙ h

module _ (names : ℕ) (t : List ℕ) (e : Expression) where
  pub decodes_encoded : Decodes names t e → Encodes names t e
  decodes_encoded h =
      record { bytes = bytes_decode names t e h; over = decode_over (min names 32) t e (decodes_few t names e h) }

  pub encoded_decodes : Encodes names t e → Decodes names t e
  unfolding Decodes
  encoded_decodes h =
      let d = decode_bytes (min names 32) (omega arith) e h.over in
      stack_few t names (length t) ∙ (rw h.bytes at d)
