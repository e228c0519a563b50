-- What one token step comes to on each of its ways, as the code takes them.
--   no_half, bad_second, both_halves, lone, based_literal   `based`
--   plain_some, plain_none, plain_small                     `plain_half`
--   not_plain, not_second, third, pair                      `plain`
--   by_class, by_other, short_name, long_name                         `take_token`
use Rattle.std.specs.Prelude.{None, Some, is_some, Err, if◌then◌else◌}
use mathlib.Core.Path.{◌≡◌, refl}
use mathlib.Core.Bool.{Bool, true, false}
use mathlib.Core.List.{List}
use Prim.Native.Nat.{ℕ, ◌+◌, ◌≤◌, ◌<◌}
use native.Mathlib.Omega.{arith}
use lib.Dec.{eqb, ltb}
use borrow.Author.Tests.{eq-eqb, ne_eqb, le-leb, lt-leb, ltb-true}
use Rattle.alf.specs.Names.{starts_name, is_decimal}
use Rattle.token_steps.specs.declared.Class.{Class}
use Rattle.token_steps.specs.declared.Class.TheVariants.{Letter, Quote, Digit, Blank, Operator, Other}
use Rattle.token_steps.specs.Classes.{is_blank_lem, is_operator, class_of, half_of, plain_found}
use Rattle.token_steps.specs.Spelling.{spellings, edge_code}
use Rattle.token_steps.specs.Taking.{byte_at, name_bytes}
use Rattle.token_steps.specs.Steps.{Outcome, step, first_of, name_step, half_at, based_step, plain_step, step_of}

module _ (bs : List ℕ) where
  pub no_half : half_at bs 0 ≡ None → Err 0 ≡ based_step bs
  unfolding based_step
  no_half h = rw h

  module _ {f : ℕ} (ef : half_at bs 0 ≡ Some f) {x : ℕ} (ex : x ≡ byte_at bs 3) where
    module _ (hx : x ≡ 39) where
      pub bad_second : half_at bs 3 ≡ None → Err 3 ≡ based_step bs
      unfolding based_step
      bad_second h = rw ef (rw (← ex, eq-eqb x 39 hx, h))

      pub both_halves : {t : ℕ} → half_at bs 3 ≡ Some t → step (edge_code f t) 6 ≡ based_step bs
      unfolding based_step
      both_halves h = rw ef (rw (← ex, eq-eqb x 39 hx, h))

    module _ (hx : x ≡ 39 → ⊥) where
      pub lone : f ≡ 0 → Err 0 ≡ based_step bs
      unfolding based_step
      lone h = rw ef (rw (← ex, ne_eqb x 39 hx, eq-eqb f 0 h))

      pub based_literal : (f ≡ 0 → ⊥) → step (31 + f) 3 ≡ based_step bs
      unfolding based_step
      based_literal h = rw ef (rw (← ex, ne_eqb x 39 hx, ne_eqb f 0 h))

-- what `plain_half` answers of a byte
pub plain_some : (b : ℕ) {f : ℕ} → plain_found b ≡ Some f → (ltb (half_of b) 3 ≡ true) × (f ≡ half_of b)
unfolding plain_found
plain_some b {f} e = go (ltb (half_of b) 3) refl
  where
    go : (q : Bool) → ltb (half_of b) 3 ≡ q → (q ≡ true) × (f ≡ half_of b)
    go true h = let k = rw h at e in (refl, cc)
    go false h = let k = rw h at e in absurd cc

pub plain_none : (b : ℕ) → plain_found b ≡ None → ltb (half_of b) 3 ≡ false
unfolding plain_found
plain_none b e = go (ltb (half_of b) 3) refl
  where
    go : (q : Bool) → ltb (half_of b) 3 ≡ q → q ≡ false
    go true h = let k = rw h at e in absurd cc
    go false h = refl

pub plain_small : (b : ℕ) {f : ℕ} → plain_found b ≡ Some f → f < 3
plain_small b {f} e = let k = plain_some b e in omega (arith, ltb-true (half_of b) 3 k.0)

module _ (bs : List ℕ) {a : ℕ} (ea : a ≡ byte_at bs 0) where
  pub not_plain : plain_found a ≡ None → first_of spellings bs ≡ plain_step bs
  unfolding plain_step
  not_plain h = rw (← ea, plain_none a h)

  module _ {f : ℕ} (ef : plain_found a ≡ Some f) {b : ℕ} (eb : b ≡ byte_at bs 1) where
    pub not_second : plain_found b ≡ None → first_of spellings bs ≡ plain_step bs
    unfolding plain_step
    not_second h = rw (← ea, ← eb, (plain_some a ef).0, plain_none b h)

    module _ {t : ℕ} (et : plain_found b ≡ Some t) {c : ℕ} (ec : c ≡ byte_at bs 2) where
      pub third : is_some (plain_found c) ≡ true → Err 0 ≡ plain_step bs
      unfolding plain_step plain_found
      third h = rw (← ea, ← eb, ← ec, (plain_some a ef).0, (plain_some b et).0) (go (ltb (half_of c) 3) refl)
        where
          go : (q : Bool) → ltb (half_of c) 3 ≡ q
              → Err 0 ≡ (if q then Err 0 else step (edge_code (half_of a) (half_of b)) 2)
          go true e = refl
          go false e = let k = rw e at h in absurd cc

      pub pair : is_some (plain_found c) ≡ false → step (edge_code f t) 2 ≡ plain_step bs
      unfolding plain_step plain_found
      pair h =
          rw (← ea, ← eb, ← ec, (plain_some a ef).0, (plain_some b et).0, (plain_some a ef).1, (plain_some b et).1)
          (go (ltb (half_of c) 3) refl)
        where
          go : (q : Bool) → ltb (half_of c) 3 ≡ q
              → step (edge_code (half_of a) (half_of b)) 2
              ≡ (if q then Err 0 else step (edge_code (half_of a) (half_of b)) 2)
          go true e = let k = rw e at h in absurd cc
          go false e = refl

-- the step that a class of the first byte calls for
abbrev pub chosen : Class → List ℕ → Outcome
chosen Letter bs = name_step bs
chosen Quote bs = based_step bs
chosen Digit bs = plain_step bs
chosen Blank bs = plain_step bs
chosen Operator bs = plain_step bs
chosen Other bs = plain_step bs

classed :
    (bs : List ℕ) (l q d k o : Bool) →
    chosen
    (if l then Letter else if q then Quote else if d then Digit else if k then Blank else if o then Operator else Other)
    bs ≡
    (if l then name_step bs else if q then based_step bs else plain_step bs)
classed bs true q d k o = refl
classed bs false true d k o = refl
classed bs false false true k o = refl
classed bs false false false true o = refl
classed bs false false false false true = refl
classed bs false false false false false = refl

pub by_class : (bs : List ℕ) {x : Class} {b : ℕ} → x ≡ class_of b → b ≡ byte_at bs 0
    → chosen x bs ≡ step_of bs
unfolding class_of step_of
by_class bs {x} {b} ex eb =
    rw (ex, ← eb) (classed bs (starts_name b) (eqb b 39) (is_decimal b) (is_blank_lem b) (is_operator b))

pub by_other : (bs : List ℕ) {x : Class} → (x ≡ Letter → ⊥) → (x ≡ Quote → ⊥) → plain_step bs ≡ chosen x bs
by_other bs {x = Letter} h k = absurd (h refl)
by_other bs {x = Quote} h k = absurd (k refl)
by_other bs {x = Digit} h k = refl
by_other bs {x = Blank} h k = refl
by_other bs {x = Operator} h k = refl
by_other bs {x = Other} h k = refl

pub short_name : (bs : List ℕ) {n : ℕ} → n ≡ name_bytes bs → n ≤ 32 → step 0 n ≡ name_step bs
unfolding name_step
short_name bs {n} e h = rw (← e, le-leb n 32 h)

pub long_name : (bs : List ℕ) {n : ℕ} → n ≡ name_bytes bs → 32 < n → Err 0 ≡ name_step bs
unfolding name_step
long_name bs {n} e h = rw (← e, lt-leb n 32 h)
