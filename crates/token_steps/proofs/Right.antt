-- What one token step must say of the bytes bs: the token taken, or the place where none is; and what bars bs, by their
-- first byte.
--   Right_token, Right, right_taken   a step that is right
--   barred_other, barred_quote       what can bar bytes that begin with no `'`, or with one
use mathlib.Core.Path.{◌≡◌}
use mathlib.Core.Bool.{true, false}
use Rattle.std.specs.Prelude.{Ok, Err}
use mathlib.Core.List.{List}
use Prim.Native.Nat.{ℕ, ◌<◌}
use lib.Dec.{eqb}
use lib.ListN.{length, take, drop}
use borrow.Author.Tests.{eq-eqb}
use Rattle.alf.specs.Names.{starts_name, goes_on_name}
use Rattle.basics.proofs.Bools.{and_left}
use Rattle.token_steps.specs.declared.Step.{Step}
use Rattle.token_steps.specs.Taking.{byte_at, name_bytes, is_plain, is_based, is_half, Barred, Taken, NoToken}
use Rattle.token_steps.specs.Taking.Barred.{together, overlong, loose, lone, bad_half}
use Rattle.token_steps.specs.Steps.{Outcome, step}
use Rattle.token_steps.proofs.Bytes.{contrary, plain_unquoted, quote_unnamed}

-- a step with a token takes it, from bytes that are there
pub record Right_token (bs : List ℕ) (s : Step) : Type 0 where
  pub takes : Taken bs (take s.size bs) s.code (drop s.size bs)
  pub fits : length (take s.size bs) ≡ s.size

-- and one without names the place
abbrev pub Right : List ℕ → Outcome → Type 0
Right bs (Ok s) = Right_token bs s
Right bs (Err k) = NoToken bs k

pub right_taken :
    {bs : List ℕ} {c n : ℕ} →
    length (take n bs) ≡ n →
    Taken bs (take n bs) c (drop n bs) →
    Right bs (step c n)
right_taken l t = record { takes = t; fits = l }

-- what bars bs, by their first byte
pub barred_other :
    {bs : List ℕ} →
    eqb (byte_at bs 0) 39 ≡ false →
    (is_plain (byte_at bs 0) ≡ true → is_plain (byte_at bs 1) ≡ true → is_plain (byte_at bs 2) ≡ true → ⊥) →
    (starts_name (byte_at bs 0) ≡ true → 32 < name_bytes bs → ⊥) →
    (k : ℕ) →
    Barred bs k →
    ⊥
barred_other h f g k (together a b c) = f a b c
barred_other h f g k (overlong a b) = g a b
barred_other {bs} h f g k (loose a b) = contrary (and_left (eqb (byte_at bs 0) 39) _ a) h
barred_other {bs} h f g k (lone a b c) = contrary (and_left (eqb (byte_at bs 0) 39) _ a) h
barred_other {bs} h f g k (bad_half a b c) =
    contrary (and_left (eqb (byte_at bs 0) 39) _ (and_left (is_based bs 0) _ a)) h

pub barred_quote :
    {bs : List ℕ} →
    byte_at bs 0 ≡ 39 →
    (is_based bs 0 ≡ true → goes_on_name (byte_at bs 3) ≡ true → ⊥) →
    (is_based bs 0 ≡ true → byte_at bs 2 ≡ 63 → (byte_at bs 3 ≡ 39 → ⊥) → ⊥) →
    (is_half bs 0 ≡ true → byte_at bs 3 ≡ 39 → is_half bs 3 ≡ false → ⊥) →
    (k : ℕ) →
    Barred bs k →
    ⊥
barred_quote {bs} q f g h k (together a b c) = contrary (eq-eqb (byte_at bs 0) 39 q) (plain_unquoted (byte_at bs 0) a)
barred_quote {bs} q f g h k (overlong a b) = contrary a (quote_unnamed (byte_at bs 0) q)
barred_quote q f g h k (loose a b) = f a b
barred_quote q f g h k (lone a b c) = g a b c
barred_quote q f g h k (bad_half a b c) = h a b c
