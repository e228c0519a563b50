-- The codes of letters, one by one.
--   map_at                   an entry of a list of codes
--   codes_more, codes_all    one code more, and all of them
use Prim.Native.Nat.{ℕ, zero, suc, ◌+◌, ◌<◌, ◌≤◌}
use native.Mathlib.Omega.{arith}
use mathlib.Core.Path.{◌≡◌, refl, sym, ◌∙◌}
use mathlib.Core.List.{List, [], ◌∷◌, map}
use lib.ListN.{length, get_or, take, set, length-map}
use lib.Seq.{take_all}
use Rattle.basics.specs.Memory.{Put}
use Rattle.basics.proofs.PartByPart.{copy_more}
use Rattle.basics.proofs.PartByPart.{put_as}
use Rattle.state_letters.specs.Letters.{state_of}

pub map_at : (f : ℕ → ℕ) (xs : List ℕ) (i : ℕ) → i < length xs → get_or (map f xs) i 0 ≡ f (get_or xs i 0)
map_at f [] i h = absurd (omega arith)
map_at f (x ∷ xs) zero h = refl
map_at f (x ∷ xs) (suc i) h = map_at f xs i (omega arith)

module _ (xs : List ℕ) {i : ℕ} {out₀ out : List ℕ} where
  pub codes_more : {v : ℕ} → i < length xs → v ≡ state_of (get_or xs i 0)
      → Put out₀ 0 (take i (map state_of xs)) out i
      → Put out₀ 0 (take (i + 1) (map state_of xs)) (set out i v) (i + 1)
  codes_more h e p =
      let z : ◌≡◌ {A = ℕ} (0 + i) i = omega arith in
      let y : ◌≡◌ {A = ℕ} (0 + (i + 1)) (i + 1) = omega arith in
      let q : Put out₀ 0 (take i (map state_of xs)) out (0 + i) = rw z p in
      rw (e ∙ sym (map_at state_of xs i h))
      (rw (z, y) at (copy_more (map state_of xs) i {at = 0} (rw (length-map xs state_of) h) q))

  pub codes_all : length xs ≤ i → Put out₀ 0 (take i (map state_of xs)) out i
      → Put out₀ 0 (map state_of xs) out i
  codes_all h p = put_as (take_all i (map state_of xs) (rw (length-map xs state_of) h)) p
