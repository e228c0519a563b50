-- Laws of halves: what `half_at_lem` answers on each of its ways.
--   no_quote, no_b, name_byte_lem   no half
--   half                        a half
use Rattle.std.specs.Prelude.{Option, None, Some, IfSome, if◌then◌else◌}
use mathlib.Core.Path.{◌≡◌, refl, ◌∙◌}
use mathlib.Core.Bool.{Bool, true, false}
use mathlib.Core.List.{List}
use Prim.Native.Nat.{ℕ, ◌+◌, ◌<◌}
use lib.Dec.{ltb}
use borrow.Author.Tests.{eq-eqb, ne_eqb, ltb-true}
use Rattle.alf.specs.Names.{goes_on_name}
use Rattle.token_steps.specs.Classes.{half_of, half_found}
use Rattle.token_steps.specs.Taking.{byte_at, is_half}
use Rattle.token_steps.specs.Steps.{half_at}
use Rattle.token_steps.specs.Inner.{HalfAt}
use Rattle.token_steps.proofs.ByteByByte.{and_false, and_true}

-- what `half_of` answers of a byte is below 9
found_small : (b : ℕ) → IfSome (half_found b) (λ h. h < 9)
unfolding half_found
found_small b = go (ltb (half_of b) 9) refl
  where
    go : (q : Bool) → ltb (half_of b) 9 ≡ q → IfSome (if q then Some (half_of b) else None) (λ h. h < 9)
    go true e = ltb-true (half_of b) 9 e
    go false e = tt

no_half : {bs : List ℕ} {k : ℕ} → is_half bs k ≡ false → HalfAt bs k None
unfolding half_at
no_half h = record { is = rw h; small = tt }

module _ (bs : List ℕ) (k : ℕ) {x : ℕ} (ex : x ≡ byte_at bs k) where
  pub no_quote : (x ≡ 39 → ⊥) → HalfAt bs k None
  no_quote h = no_half (rw (← ex) (rw (ne_eqb x 39 h)))

  module _ (hx : x ≡ 39) {y : ℕ} (ey : y ≡ byte_at bs (k + 1)) where
    pub no_b : (y ≡ 98 → ⊥) → HalfAt bs k None
    no_b h = no_half (rw (← ex, ← ey) (rw (eq-eqb x 39 hx, ne_eqb y 98 h)))

    module _ (hy : y ≡ 98) {z : ℕ} (ez : z ≡ byte_at bs (k + 3)) where
      pub name_byte_lem : goes_on_name z ≡ true → HalfAt bs k None
      name_byte_lem h =
          no_half (rw (← ex, ← ey, ← ez) (rw (eq-eqb x 39 hx, eq-eqb y 98 hy, h) (rw and_false)))

      pub half :
          {c : ℕ} {r : Option ℕ} →
          goes_on_name z ≡ false →
          c ≡ byte_at bs (k + 2) →
          r ≡ half_found c →
          HalfAt bs k r
      unfolding half_at half_found
      half {c} {r} h ec er =
          record {
            is = er ∙ rw (← ex, ← ey, ← ez, ← ec) (rw (eq-eqb x 39 hx, eq-eqb y 98 hy, h) (rw and_true));
            small = rw er (found_small c);
          }
