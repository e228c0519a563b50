-- The steps and tests of an alternative, counted no further than 65, from those of the alternatives it is made of.
-- Main names: held, with_pins; left_combined, right_combined, left_first, right_first, together.
use Prim.Native.Nat.{ℕ, ◌+◌, min, max}
use native.Mathlib.Omega.{arith}
use mathlib.Core.Path.{◌≡◌, refl}
use lib.ListN.{length-append}
use Rattle.alf.proofs.Steps.{overlaid_length, conditioned_length}
use Rattle.alf.proofs.Growth.{tests_append, tests_overlaid, tests_conditioned}
use Rattle.alternatives.specs.declared.picking.How.TheVariants.{Left, Right, LeftFirst, RightFirst, Together}
use Rattle.alternatives.specs.Picks.{put}
use Rattle.acceptance.specs.Sizes.{Held, Combined, WithPins}

pub held : {s n k : ℕ} → k ≡ min 65 (n + s) → Held s n s k
held e =
    record {
      given = λ c x h.
          let a = h.steps_is in
          let b = h.tests_is in
          let l = conditioned_length c x in
          let t = tests_conditioned c x in
          record { steps_is = omega arith; tests_is = omega arith };
    }

pub with_pins : {s n k r : ℕ} → r ≡ min 65 (n + k) → WithPins s n k s r
with_pins e = record { steps_is = refl; tests_is = e }

module _ {a b c d : ℕ} where
  pub left_combined : Combined Left a b c d a b
  unfolding put
  left_combined = record { given = λ x y h k. h }

  pub right_combined : Combined Right a b c d c d
  unfolding put
  right_combined = record { given = λ x y h k. k }

  module _ {t : ℕ} (e : t ≡ min 65 (b + d)) where
    pub left_first : {s : ℕ} → s ≡ min 65 (a + c) → Combined LeftFirst a b c d s t
    unfolding put
    left_first f =
        record {
          given = λ x y h k.
              let l = length-append x y in
              let m = tests_append x y in
              record {
                steps_is = omega (arith, h.steps_is, k.steps_is);
                tests_is = omega (arith, h.tests_is, k.tests_is);
              };
        }

    pub right_first : {s : ℕ} → s ≡ min 65 (c + a) → Combined RightFirst a b c d s t
    unfolding put
    right_first f =
        record {
          given = λ x y h k.
              let l = length-append y x in
              let m = tests_append y x in
              record {
                steps_is = omega (arith, h.steps_is, k.steps_is);
                tests_is = omega (arith, h.tests_is, k.tests_is);
              };
        }

    pub together : {s : ℕ} → s ≡ max a c → Combined Together a b c d s t
    unfolding put
    together f =
        record {
          given = λ x y h k.
              let l = overlaid_length x y in
              let m = tests_overlaid x y in
              record {
                steps_is = omega (arith, h.steps_is, k.steps_is);
                tests_is = omega (arith, h.tests_is, k.tests_is);
              };
        }
