-- The tests of a part's pins in memory, one after the other.
--   entries_few                  how many entries are tested at a step
--   no_tests                     where there is no pin
--   no_pin, a_pin, pin_fits      one entry
--   Pinning, first_pin, pin_room, next_pin, all_pins     those of some entries, one after the other
use Rattle.std.specs.Prelude.{if◌then◌else◌}
use Prim.Native.Nat.{ℕ, zero, suc, ◌+◌, ◌<◌, ◌≤◌}
use native.Mathlib.Omega.{arith}
use native.Mathlib.Numerals.{add-one}
use mathlib.Core.Path.{◌≡◌, refl, ap, ◌∙◌}
use mathlib.Core.Bool.{Bool, true, false}
use mathlib.Core.Logic.{◌⊎◌, inl, inr}
use mathlib.Core.List.{List, [], ◌∷◌, ◌++◌}
use lib.Dec.{eqb}
use lib.ListN.{length, length-append}
use borrow.Author.Tests.{eq-eqb, ne_eqb}
use Rattle.basics.proofs.Bools.{equal?, below?}
use Rattle.alf.specs.Expressions.{name, stays}
use Rattle.alf.specs.Bytes.{edge_number}
use Rattle.alf.specs.Alternatives.{Step}
use Rattle.steady_pins.specs.Pinned.{pin_at, pin_tests}
use Rattle.steady_pins.specs.Entries.{PinNumber}
use Rattle.steady_pins.proofs.PinnedAlternatives.{tests_counted}
use Rattle.step_tests.specs.Steps.{Put, Fits, OnePut, one_pin, PinFits, PinsFit, entries_at}
use Rattle.step_tests.proofs.Puts.{put_none, put_one, put_then, put_lengths}

pub entries_few : (steps j : ℕ) → entries_at steps j ≤ 32
unfolding entries_at
entries_few steps j = go (eqb (j + 1) steps)
  where
    go : (b : Bool) → (if b then 32 else 0) ≤ 32
    go true = omega arith
    go false = omega arith

-- no pin, no test
empty : (s : Step) → length s ≡ 0 → s ≡ []
empty [] e = refl
empty (x ∷ s) e = absurd (omega arith)

tests_rise : (pins : List ℕ) (end m n : ℕ) → n ≤ m
    → length (pin_tests name pins n end) ≤ length (pin_tests name pins m end)
unfolding pin_tests one_pin
tests_rise pins end zero zero l = omega arith
tests_rise pins end zero (suc n) l = absurd (omega arith)
tests_rise pins end (suc m) n l = go (below? m n) (tests_rise pins end m n)
  where
    go : (m < n) ⊎ (n ≤ m)
        → (n ≤ m → length (pin_tests name pins n end) ≤ length (pin_tests name pins m end))
        → length (pin_tests name pins n end) ≤ length (pin_tests name pins (suc m) end)
    go (inl k) f = let e : n ≡ suc m = omega arith in rw e (omega arith)
    go (inr k) f =
        let e = length-append (pin_tests name pins m end) (one_pin (pin_at pins end m)) in
        omega (arith, f k)

pub no_tests : {pins : List ℕ} {end n from k : ℕ} {edges operands : List ℕ} → PinNumber pins end k → k ≡ 0 → n ≤ 32
    → Put (pin_tests name pins n end) from edges operands from edges operands
no_tests {pins} {end} {n} h e l =
    let u = tests_rise pins end 32 n l in
    let v = tests_counted name pins 32 end in
    let w : length (pin_tests name pins n end) ≡ 0 = omega (arith, h.is) in
    rw (empty (pin_tests name pins n end) w) put_none

-- one entry
module _ {pin from : ℕ} {edges operands : List ℕ} where
  pub no_pin : pin ≡ 0 → Put (one_pin pin) from edges operands from edges operands
  unfolding one_pin
  no_pin e = rw (eq-eqb pin 0 e) put_none

  pub pin_fits : (pin ≡ 0 → ⊥) → pin < 65536 → PinFits pin edges operands from → Fits pin edges operands from
  unfolding one_pin
  pin_fits f l h =
      let h' = rw (ne_eqb pin 0 f) at h.edges_room in
      let h'' = rw (ne_eqb pin 0 f) at h.operands_room in
      record { small = l; edges_room = omega arith; operands_room = omega arith }

  pub a_pin : {next : ℕ} {edges' operands' : List ℕ} → (pin ≡ 0 → ⊥)
      → OnePut 82 pin from edges operands next edges' operands'
      → Put (one_pin pin) from edges operands next edges' operands'
  unfolding one_pin edge_number
  a_pin f h = rw (ne_eqb pin 0 f) (put_one {e = stays} refl h)

-- the first entries are fewer than all
module _ (pins : List ℕ) (end : ℕ) where
  next_tests : (k : ℕ) → pin_tests name pins (k + 1) end ≡ pin_tests name pins k end ++ one_pin (pin_at pins end k)
  unfolding pin_tests one_pin
  next_tests k = rw add-one refl

  grows : (n : ℕ) → length (pin_tests name pins n end) ≤ length (pin_tests name pins (suc n) end)
  unfolding pin_tests one_pin
  grows n = omega (arith, length-append (pin_tests name pins n end) (one_pin (pin_at pins end n)))

  fewer : (k n : ℕ) → k ≤ n → length (pin_tests name pins k end) ≤ length (pin_tests name pins n end)
  fewer k zero l = let e : k ≡ 0 = omega arith in rw e (omega arith)
  fewer k (suc n) l = go (λ u. fewer k n u) (equal? k (suc n))
    where
      go : (k ≤ n → length (pin_tests name pins k end) ≤ length (pin_tests name pins n end))
          → (k ≡ suc n) ⊎ (k ≡ suc n → ⊥)
          → length (pin_tests name pins k end) ≤ length (pin_tests name pins (suc n) end)
      go r (inl e) = rw e (omega arith)
      go r (inr f) =
          let u : k ≤ n = omega arith in
          omega (arith, r u, grows n)

-- the tests of the first k of n entries are written
pub record Pinning (pins : List ℕ) (end n : ℕ) (edges₀ operands₀ : List ℕ) (from k at : ℕ) (edges operands : List ℕ)
    : Type 0 where
  pub within : k ≤ n
  pub put : Put (pin_tests name pins k end) from edges₀ operands₀ at edges operands

pub first_pin : {pins : List ℕ} {end n from : ℕ} {edges operands : List ℕ}
    → Pinning pins end n edges operands from 0 from edges operands
unfolding pin_tests
first_pin = record { within = omega arith; put = put_none }

module _ {pins : List ℕ} {end n : ℕ} {edges₀ operands₀ : List ℕ} {from k at : ℕ} {edges operands : List ℕ}
    (g : Pinning pins end n edges₀ operands₀ from k at edges operands) where
  pub pin_room : PinsFit pins end n edges₀ operands₀ from → k < n → PinFits (pin_at pins end k) edges operands at
  pin_room h l =
      let (x, y) = put_lengths g.put in
      let e =
      ap length (next_tests pins end k) ∙ length-append (pin_tests name pins k end) (one_pin (pin_at pins end k)) in
      let d = fewer pins end (k + 1) n (omega arith) in
      record {
        edges_room = omega (arith, h.edges_room, g.put.next_is);
        operands_room = omega (arith, h.operands_room, g.put.next_is);
      }

  pub next_pin : {next : ℕ} {edges' operands' : List ℕ} → k < n
      → Put (one_pin (pin_at pins end k)) at edges operands next edges' operands'
      → Pinning pins end n edges₀ operands₀ from (k + 1) next edges' operands'
  next_pin l p = record { within = omega arith; put = rw (next_tests pins end k) (put_then g.put p) }

  pub all_pins : n ≤ k → Put (pin_tests name pins n end) from edges₀ operands₀ at edges operands
  all_pins l = let e : k ≡ n = omega (arith, g.within) in rw (← e) g.put
