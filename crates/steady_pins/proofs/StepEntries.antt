-- The entries of a step's row and of earlier rows, where the walk has come to the step.
--   pin_before, looked                      an entry of its row; what is seen of the step
--   passed_moving, passed_still, alone_passed    the step, and then what was before it
--   still_run, still_step, moving_row       its row, by what was tested
--   own_entry, earlier_entry                an entry of its row, and of an earlier one, once more is known
use Rattle.std.specs.Prelude.{if◌then◌else◌}
use Prim.Native.Nat.{ℕ, ◌*◌, ◌<◌}
use mathlib.Core.Path.{◌≡◌, refl, sym, ◌∙◌}
use mathlib.Core.Bool.{Bool, true, false, ◌&&◌}
use mathlib.Core.List.{List}
use mathlib.Core.Logic.{◌⊎◌, inl, inr}
use lib.Dec.{eqb}
use lib.ListN.{length, get_or, replicate}
use lib.Seq.{sets}
use borrow.Author.Tests.{eq-eqb, ne_eqb}
use Rattle.basics.specs.Words.{listed}
use Rattle.basics.proofs.Bools.{equal?}
use Rattle.alf.specs.Expressions.{Vector}
use Rattle.alf.specs.Steady.{moves}
use Rattle.steady_pins.specs.declared.finding.Beside.{Beside}
use Rattle.steady_pins.specs.Finding.{own, alone, stepped, pin_entry}
use Rattle.steady_pins.specs.Walking.{over, passed, settled_entry, own_row}
use Rattle.steady_pins.proofs.Placed.{Placed}
use Rattle.steady_pins.proofs.OwnPlaces.{over_here, over_none, own_listed}

pub pin_before : (before mine : ℕ) → mine ≡ 0 → before ≡ pin_entry before mine 0
unfolding pin_entry
pin_before before mine e = rw (eq-eqb mine 0 e) (go (equal? before 0))
  where
    go : (before ≡ 0) ⊎ (before ≡ 0 → ⊥) → before ≡ (if eqb before 0 then 0 else before)
    go (inl d) = rw (eq-eqb before 0 d) d
    go (inr d) = rw (ne_eqb before 0 d) refl

and_true : (q : Bool) → q ≡ (q && true)
and_true true = refl
and_true false = refl

pub looked : (end : ℕ) (p : Vector) {places : List ℕ} {changing : Bool} → places ≡ own end p (replicate 32 0)
    → changing ≡ moves p → record { places = places; changing = changing } ≡ stepped end p alone
looked end p e h = λ i. record { places = e i; changing = (h ∙ and_true (moves p)) i }

-- the step, and then what was before it, by what was tested
module _ (mine before : Beside) {l : List ℕ}
    (e : l ≡ listed 0 32 (λ n. over (get_or mine.places n 0) (get_or before.places n 0))) where
  pub passed_moving : mine.changing ≡ true → record { places = l; changing = before.changing } ≡ passed mine before
  passed_moving h = λ i. record { places = e i; changing = sym h i && before.changing }

  pub passed_still : mine.changing ≡ false → record { places = l; changing = false } ≡ passed mine before
  passed_still h = λ i. record { places = e i; changing = sym h i && before.changing }

pub alone_passed : {end : ℕ} {p : Vector} (b : Beside) → Placed (λ i c. 0 < i) end p → length b.places ≡ 32
    → passed (stepped end p alone) b ≡ stepped end p b
alone_passed {p = p} b h w =
    λ i. record { places = own_listed h b.places w i; changing = sym (and_true (moves p)) i && b.changing }

-- a step's row, by what was tested
module _ (before mine : Beside) (row : ℕ) (l : List ℕ) where
  pub still_run : before.changing ≡ false → l ≡ own_row before mine row l
  unfolding own_row
  still_run h = rw h refl

  module _ (h : before.changing ≡ true) where
    pub still_step : mine.changing ≡ false → l ≡ own_row before mine row l
    unfolding own_row
    still_step k = rw (h, k) refl

    pub moving_row : mine.changing ≡ true
        → sets l (row * 32) (listed 0 32 (λ n. pin_entry (get_or before.places n 0) (get_or mine.places n 0) 0))
        ≡ own_row before mine row l
    unfolding own_row
    moving_row k = rw (h, k) refl

-- an entry of the step's row, once it is known what comes after
later : (b mine a : ℕ) → pin_entry b mine a ≡ settled_entry true true (over mine b) a (pin_entry b mine 0)
unfolding pin_entry settled_entry over
later b mine a = go (equal? mine 0) (equal? b 0) (equal? a 0)
  where
    go : (mine ≡ 0) ⊎ (mine ≡ 0 → ⊥) → (b ≡ 0) ⊎ (b ≡ 0 → ⊥) → (a ≡ 0) ⊎ (a ≡ 0 → ⊥)
        → (if eqb mine 0 then (if eqb b 0 then a else b) else 0)
        ≡ (if eqb (if eqb mine 0 then b else mine) 0
        then (if eqb a 0 then (if eqb mine 0 then (if eqb b 0 then 0 else b) else 0) else a)
        else (if eqb mine 0 then (if eqb b 0 then 0 else b) else 0))
    go (inl e) (inl d) (inl f) = rw (eq-eqb mine 0 e, eq-eqb b 0 d, eq-eqb a 0 f) f
    go (inl e) (inl d) (inr f) = rw (eq-eqb mine 0 e, eq-eqb b 0 d, ne_eqb a 0 f) refl
    go (inl e) (inr d) f = rw (eq-eqb mine 0 e, ne_eqb b 0 d) refl
    go (inr e) d f = rw (ne_eqb mine 0 e, ne_eqb mine 0 e) refl

pub own_entry : (bc mv ac : Bool) (b mine a : ℕ)
    → (if bc && (mv && ac) then pin_entry b mine a else 0)
    ≡ settled_entry ((mv && bc) && true) ac (over mine b) a (if bc && (mv && true) then pin_entry b mine 0 else 0)
unfolding settled_entry
own_entry true true true b mine a = later b mine a
own_entry true true false b mine a = refl
own_entry true false ac b mine a = refl
own_entry false true ac b mine a = refl
own_entry false false ac b mine a = refl

-- an entry of an earlier row: what comes after it is the step, and then what comes after the step
both : (b mine a old : ℕ)
    → settled_entry true true b (over mine a) old
    ≡ settled_entry true true (over mine b) a (settled_entry true true b mine old)
unfolding settled_entry
both b mine a old = go (equal? mine 0)
  where
    same : (q : Bool)
        → (if q then over a old else old)
        ≡ (if q then over a (if q then old else old) else (if q then old else old))
    same true = refl
    same false = refl

    go : (mine ≡ 0) ⊎ (mine ≡ 0 → ⊥)
        → (if eqb b 0 then over (over mine a) old else old)
        ≡ (if eqb (over mine b) 0 then over a (if eqb b 0 then over mine old else old)
        else (if eqb b 0 then over mine old else old))
    go (inl e) = rw (over_none mine a e, over_none mine b e, over_none mine old e) (same (eqb b 0))
    go (inr d) = rw (over_here mine a d, over_here mine b d, over_here mine old d, ne_eqb mine 0 d) refl

pub earlier_entry : (bc mv ac h : Bool) (b mine a old : ℕ)
    → settled_entry (bc && h) (mv && ac) b (over mine a) old
    ≡ settled_entry ((mv && bc) && h) ac (over mine b) a (settled_entry (bc && h) (mv && true) b mine old)
unfolding settled_entry
earlier_entry true true true true b mine a old = both b mine a old
earlier_entry true true false true b mine a old = refl
earlier_entry true false ac true b mine a old = refl
earlier_entry true true ac false b mine a old = refl
earlier_entry true false ac false b mine a old = refl
earlier_entry false true ac h b mine a old = refl
earlier_entry false false ac h b mine a old = refl
