-- Laws of the limits: what a token changes, and the first that goes over.
--   opens, closes_none, closes, leaves, uncounted, counts   `after`
--   over_hit, over_more, over_end                           one turn of `first_over`, and its end
--   found_here, found_none, here_found, none_found          what it finds, as an index or none
use mathlib.Core.Path.{◌≡◌, refl, ap}
use mathlib.Core.Bool.{Bool, true, false}
use mathlib.Core.List.{List, [], ◌∷◌}
use Prim.Native.Nat.{ℕ, suc, ◌+◌, ◌-◌, ◌≤◌, ◌<◌}
use native.Mathlib.Omega.{arith}
use native.Mathlib.Numerals.{add-one}
use lib.Dec.{eqb, ltb}
use Rattle.std.specs.Prelude.{Some, None, if◌then◌else◌}
use lib.ListN.{length, take, drop, get_or, drop_of_length-le, length-take}
use lib.Seq.{drop-cons, get_or-take}
use borrow.Author.Tests.{eq-eqb, ne_eqb, eqb-false, lt-ltb, le-ltb, ltb-true, ltb-false}
use Rattle.tokens.specs.Texts.{opened, counted}
use Rattle.tokens.specs.Inner.{changed, over_at, over_found}

module _ {b : Bool} (c n : ℕ) (h : b ≡ true) where
  pub opens : c ≡ 62 → n + 1 ≡ changed b c n
  unfolding opened
  opens e = rw (h, eq-eqb c 62 e)

  pub closes_none : (c ≡ 62 → ⊥) → c ≡ 63 → n ≡ 0 → 0 ≡ changed b c n
  unfolding opened
  closes_none f e z = rw (h, ne_eqb c 62 f, eq-eqb c 63 e, z)

  pub closes : (c ≡ 62 → ⊥) → c ≡ 63 → n - 1 ≡ changed b c n
  unfolding opened
  closes f e = rw (h, ne_eqb c 62 f, eq-eqb c 63 e)

  pub leaves : (c ≡ 62 → ⊥) → (c ≡ 63 → ⊥) → n ≡ changed b c n
  unfolding opened
  leaves f e = rw (h, ne_eqb c 62 f, ne_eqb c 63 e)

module _ {b : Bool} (c n : ℕ) (h : b ≡ false) where
  pub uncounted : 61 ≤ c → c ≤ 63 → n ≡ changed b c n
  unfolding counted
  uncounted l k = rw h (go (eqb c 61) (eqb c 62) refl refl)
    where
      go : (x y : Bool) → eqb c 61 ≡ x → eqb c 62 ≡ y → n ≡ counted c n
      go true y e f = rw e
      go false true e f = rw (e, f)
      go false false e f =
          let z : c ≡ 63 = omega (arith, eqb-false c 61 e, eqb-false c 62 f) in rw (e, f, eq-eqb c 63 z)

  pub counts : (c ≡ 61 → ⊥) → (c ≡ 62 → ⊥) → (c ≡ 63 → ⊥) → n + 1 ≡ changed b c n
  unfolding counted
  counts p q r = rw (h, ne_eqb c 61 p, ne_eqb c 62 q, ne_eqb c 63 r)

over_cons :
    (f : ℕ → ℕ → ℕ) (limit n c : ℕ) (cs : List ℕ) →
    limit < f c n →
    over_at f limit n (c ∷ cs) ≡ 0
unfolding over_at
over_cons f limit n c cs h = rw (lt-ltb limit (f c n) h)

under_cons :
    (f : ℕ → ℕ → ℕ) (limit n c : ℕ) (cs : List ℕ) →
    f c n ≤ limit →
    over_at f limit n (c ∷ cs) ≡ suc (over_at f limit (f c n) cs)
unfolding over_at
under_cons f limit n c cs h = rw (le-ltb limit (f c n) h)

over_nil : (f : ℕ → ℕ → ℕ) (limit n : ℕ) → over_at f limit n [] ≡ 0
unfolding over_at
over_nil f limit n = refl

module _ (f : ℕ → ℕ → ℕ) (limit : ℕ) (xs : List ℕ) (count : ℕ) (l : count ≤ length xs) where
  abbrev rest : ℕ → List ℕ
  rest i = drop i (take count xs)

  pub size : length (take count xs) ≡ count
  size = rw length-take (omega arith)

  rest_cons : (i : ℕ) → i < count → rest i ≡ get_or xs i 0 ∷ rest (suc i)
  rest_cons i h =
      rw (← get_or-take count xs i 0 h) (drop-cons (take count xs) i 0 (omega (arith, size)))

  module _ (i n : ℕ) (inv : i + over_at f limit n (rest i) ≡ over_at f limit 0 (take count xs)) where
    pub over_hit : i < count → {m : ℕ} → m ≡ f (get_or xs i 0) n → limit < m
        → i ≡ over_at f limit 0 (take count xs)
    over_hit h e k =
        let z = over_cons f limit n (get_or xs i 0) (rest (suc i)) (rw (← e) k) in
        let y = ap (over_at f limit n) (rest_cons i h) in omega arith

    pub over_more :
        i < count →
        {m : ℕ} →
        m ≡ f (get_or xs i 0) n →
        m ≤ limit →
        i + 1 + over_at f limit m (rest (i + 1)) ≡ over_at f limit 0 (take count xs)
    over_more h e k =
        let z = under_cons f limit n (get_or xs i 0) (rest (suc i)) (rw (← e) k) in
        let y = ap (over_at f limit n) (rest_cons i h) in
        rw (add-one, e) (omega arith)

    pub over_end : count ≤ i → i ≤ count → count ≡ over_at f limit 0 (take count xs)
    over_end h k =
        let y = ap (over_at f limit n) (drop_of_length-le (take count xs) {i = i} (omega (arith, size))) in
        let z = over_nil f limit n in omega arith

-- what is found, as an index of the codes or none of them
module _ (f : ℕ → ℕ → ℕ) (limit : ℕ) (cs : List ℕ) where
  pub found_here : {i : ℕ} → i ≡ over_at f limit 0 cs → i < length cs → Some i ≡ over_found f limit cs
  found_here {i} e h = rw (← e) (rw (lt-ltb i (length cs) h))

  pub found_none : length cs ≤ over_at f limit 0 cs → None ≡ over_found f limit cs
  found_none h = rw (le-ltb (over_at f limit 0 cs) (length cs) h)

  pub here_found : {i : ℕ} → Some i ≡ over_found f limit cs → (i ≡ over_at f limit 0 cs) × (i < length cs)
  here_found {i} e = go (ltb (over_at f limit 0 cs) (length cs)) refl e
    where
      go : (q : Bool) → ltb (over_at f limit 0 cs) (length cs) ≡ q
          → Some i ≡ (if q then Some (over_at f limit 0 cs) else None)
          → (i ≡ over_at f limit 0 cs) × (i < length cs)
      go true h e = let k : i ≡ over_at f limit 0 cs = cc in (k, rw k (ltb-true _ _ h))
      go false h e = absurd cc

  pub none_found : None ≡ over_found f limit cs → length cs ≤ over_at f limit 0 cs
  none_found e = go (ltb (over_at f limit 0 cs) (length cs)) refl e
    where
      go : (q : Bool) → ltb (over_at f limit 0 cs) (length cs) ≡ q
          → None ≡ (if q then Some (over_at f limit 0 cs) else None)
          → length cs ≤ over_at f limit 0 cs
      go true h e = absurd cc
      go false h e = ltb-false _ _ h
