-- Laws of lists and tests that are about nothing in particular.
--   and_false, and_true     a test that cannot pass; one beside a test that passes
--   starts_byte   to begin with a byte and a rest is to have the byte first and then begin with the rest
--   past_end      a byte past the end is 0
--   names_first   name bytes end at the first byte that goes on no name
use mathlib.Core.Path.{◌≡◌, refl, sym, ap, ◌∙◌}
use mathlib.Core.Bool.{Bool, true, false, ◌&&◌}
use mathlib.Core.List.{List, [], ◌∷◌}
use Prim.Native.Nat.{ℕ, zero, suc, ◌+◌, ◌≤◌, ◌<◌}
use native.Mathlib.Omega.{arith}
use lib.Dec.{eqb}
use lib.ListN.{length, get_or, drop, get_or-eq_default}
use lib.Seq.{get_or-drop}
use borrow.Author.Tests.{ne_eqb}
use Rattle.alf.specs.Names.{goes_on_name}
use Rattle.token_steps.specs.Taking.{byte_at, name_bytes}
use Rattle.token_steps.specs.Steps.{starts}

pub and_false : (a : Bool) → a && false ≡ false
and_false true = refl
and_false false = refl

pub and_true : (a : Bool) → a && true ≡ a
and_true true = refl
and_true false = refl

pub starts_byte : (x : ℕ) (w bs : List ℕ) → 0 < x
    → starts (x ∷ w) bs ≡ eqb x (byte_at bs 0) && starts w (drop 1 bs)
unfolding starts
starts_byte x w [] h = rw (ne_eqb x 0 (λ e. omega arith))
starts_byte x w (b ∷ bs) h = refl

pub past_end : (ts : List ℕ) (at k : ℕ) → length ts ≤ at + k → 0 ≡ byte_at (drop at ts) k
past_end ts at k h = sym (get_or-drop at ts k 0 ∙ get_or-eq_default ts 0 h)

-- the first byte that goes on no name ends the name bytes
pub names_first :
    (ts : List ℕ) (n : ℕ) →
    n ≤ length ts →
    ((i : ℕ) → i < n → goes_on_name (get_or ts i 0) ≡ true) →
    (n < length ts → goes_on_name (get_or ts n 0) ≡ false) →
    n ≡ name_bytes ts
unfolding name_bytes
names_first [] zero w b t = refl
names_first [] (suc n) w b t = absurd (omega arith)
names_first (x ∷ ts) zero w b t = rw (t (omega arith))
names_first (x ∷ ts) (suc n) w b t =
    rw (b 0 (omega arith))
    (ap suc (names_first ts n (omega arith) (λ i l. b (suc i) (omega arith)) (λ l. t (omega arith))))
