-- The walk over an expression with nothing beside it, from the walks over its parts. A step has no pins then, and
-- neither have its parts.
--   lone_marked                             a step with nothing beside it has no pins
--   lone_apart, then_apart                  an edge; two parts of a chain
--   before_apart, condition_apart, other_apart     the other expressions
--   first_walk                              where the walk over a tree starts
use Rattle.std.specs.Prelude.{if◌then◌else◌}
use Prim.Native.Nat.{ℕ, ◌+◌, ◌-◌, ◌*◌, ◌<◌, ◌≤◌}
use native.Mathlib.Omega.{arith}
use mathlib.Core.Path.{◌≡◌, refl, ap, sym, ◌∙◌, subst}
use mathlib.Core.Bool.{Bool, true, false, ◌&&◌}
use mathlib.Core.List.{List}
use mathlib.Core.Logic.{◌⊎◌, inl, inr}
use lib.Dec.{eqb}
use lib.ListN.{length, get_or, replicate, length-replicate}
use borrow.Author.Tests.{eq-eqb}
use Rattle.basics.proofs.Bools.{equal?, and_left, and_right}
use Rattle.alf.specs.Expressions.{Vector}
use Rattle.alf.specs.Decoder.{join_at}
use Rattle.alf.specs.Steady.{is_with, is_step_lem, moves}
use Rattle.trees.specs.Parts.{vector_at, Start}
use Rattle.trees.proofs.Vectors.{Conditioned}
use Rattle.steady_pins.specs.declared.finding.Run.{Run}
use Rattle.steady_pins.specs.Finding.{Tree, own, alone, pin_entry, pin_row, step_marked, marked}
use Rattle.steady_pins.specs.Walking.{cell, begun, Walk, Walked, Apart}
use Rattle.steady_pins.proofs.BesideLike.{zeros}
use Rattle.steady_pins.proofs.BesideParts.{Two, step_marked_lem, before_marked, condition_marked, other_marked}
use Rattle.steady_pins.proofs.StepParts.{edge_step}
use Rattle.steady_pins.proofs.SettledRows.{by_cells, settled_none, settled_alone}
use Rattle.steady_pins.proofs.WalkedRows.{rowed_long, rowed_own, rowed_other}
use Rattle.steady_pins.proofs.NextSteps.{Next}
use Rattle.steady_pins.proofs.WalkedSteps.{step_next}
use Rattle.steady_pins.proofs.WalkedParts.{ready_later, ready_begun, left_walk, right_walk, then_walked}

-- no entry is a pin
no_pin : (mine : ℕ) {b a : ℕ} → b ≡ 0 → a ≡ 0 → pin_entry b mine a ≡ 0
unfolding pin_entry
no_pin mine {b} {a} e d = rw (eq-eqb b 0 e, d) (go (eqb mine 0))
  where
    go : (q : Bool) → (if q then (if true then 0 else b) else 0) ≡ 0
    go true = refl
    go false = refl

lone_row : {end : ℕ} {p : Vector} {run : Run} {rows l : List ℕ} → Next end p run rows l
    → step_marked alone end p alone l ≡ l
unfolding step_marked pin_row
lone_row {end} {p} {run} {rows} {l} h =
    by_cells l _ h.long (rowed_long l (end - 1) entry (moves p && true))
    (λ r n u v. go r n v (equal? r (end - 1)))
  where
    entry : ℕ → ℕ
    entry n = pin_entry (get_or (replicate 32 0) n 0) (get_or (own end p (replicate 32 0)) n 0) (get_or (replicate 32 0) n 0)

    none : (n : ℕ) → cell l (end - 1) n ≡ 0
    none n = h.blank ((end - 1) * 32 + n) (omega arith)

    same : (q : Bool) (n : ℕ) → (if q then entry n else cell l (end - 1) n) ≡ cell l (end - 1) n
    same true n = no_pin (get_or (own end p (replicate 32 0)) n 0) (zeros n 32) (zeros n 32) ∙ sym (none n)
    same false n = refl

    go : (r n : ℕ) → n < 32 → (r ≡ end - 1) ⊎ (r ≡ end - 1 → ⊥)
        → cell (step_marked alone end p alone l) r n ≡ cell l r n
    go r n v (inl e) =
        rw e
        (rowed_own l (end - 1) entry (moves p && true) n v (omega (arith, h.long, h.many, h.few))
        ∙ same (moves p && true) n)
    go r n v (inr d) = rowed_other l (end - 1) entry (moves p && true) r n d v

pub lone_marked : {t : List ℕ} {names end : ℕ} {run : Run} {rows l : List ℕ} → Walk t names end run rows l
    → is_step_lem (vector_at t names end) ≡ true → marked end (vector_at t names end) alone alone l ≡ l
lone_marked {t} {names} {end} {l = l} h u =
    step_marked_lem end alone alone l (vector_at t names end) u ∙ lone_row (step_next (record { walk = h; step = u }))

module _ {t : List ℕ} {names end : ℕ} {rows l : List ℕ} (h : Walk t names end begun rows l) where
  pub lone_apart : 64 ≤ get_or t (end - 1) 0 → Apart end (vector_at t names end) l rows l
  lone_apart k =
      record {
        pins = sym (lone_marked h (edge_step t names end h.is.ends k));
        ready = ready_later (omega arith) h.ready;
      }

  pub before_apart : {rows₁ l₁ : List ℕ} → get_or t (end - 1) 0 ≡ 57
      → Apart (end - 1) (vector_at t names (end - 1)) l rows₁ l₁ → Apart end (vector_at t names end) l rows₁ l₁
  before_apart e a =
      record {
        pins = a.pins ∙ sym (before_marked t names end h.is.ends alone alone l e);
        ready = ready_later (omega arith) a.ready;
      }

  module _ {m : ℕ} (s : Start t names (end - 1) m) where
    pub condition_apart : {rows₁ l₁ : List ℕ} → Conditioned t names end m → Apart m (vector_at t names m) l rows₁ l₁
        → Apart end (vector_at t names end) l rows₁ l₁
    condition_apart c a =
        record {
          pins = a.pins ∙ sym (condition_marked t names end h.is.ends alone alone l s c);
          ready = ready_later (omega (arith, s.before)) a.ready;
        }

    module _ (j : Two t names end m) where
      pub then_apart : {none k r : Run} {rows₁ rows₂ l₁ l₂ : List ℕ} → get_or t (end - 1) 0 ≡ 50 → none ≡ begun
          → Walked m (vector_at t names m) none rows l k rows₁ l₁
          → Walked (end - 1) (vector_at t names (end - 1)) k rows₁ l₁ r rows₂ l₂
          → Apart end (vector_at t names end) l rows₂ l₂
      then_apart {none} {k} {rows₁ = rows₁} {l₁ = l₁} e z a b =
          let w = then_walked t names end h.is.ends s j.joined e
          (subst (λ (x : Run). Walked m (vector_at t names m) x rows l k rows₁ l₁) z a) b in
          record {
            pins = sym (settled_alone w.ready.long (w.pins alone l refl settled_none));
            ready = ready_begun w.ready;
          }

      -- the parts of a step are steps
      step_parts : is_step_lem (vector_at t names end) ≡ true
          → marked (end - 1) (vector_at t names (end - 1)) alone alone (marked m (vector_at t names m) alone alone l)
          ≡ marked end (vector_at t names end) alone alone l
      step_parts u =
          let k = and_right (is_with (join_at (get_or t (end - 1) 0 - 50)))
          (is_step_lem (vector_at t names m) && is_step_lem (vector_at t names (end - 1)))
          (unfold is_step_lem in (rw j.joined.is at u)) in
          let w = left_walk h s j in
          ap (marked (end - 1) (vector_at t names (end - 1)) alone alone) (lone_marked w (and_left _ _ k))
          ∙ lone_marked (right_walk h s j (ready_later (omega arith) w.ready))
          (and_right (is_step_lem (vector_at t names m)) _ k)
          ∙ sym (lone_marked h u)

      pub other_apart : {rows₁ rows₂ l₁ l₂ : List ℕ} → (get_or t (end - 1) 0 ≡ 50 → ⊥)
          → Apart m (vector_at t names m) l rows₁ l₁
          → Apart (end - 1) (vector_at t names (end - 1)) l₁ rows₂ l₂ → Apart end (vector_at t names end) l rows₂ l₂
      other_apart n a b =
          record {
            pins = b.pins
                ∙ ap (marked (end - 1) (vector_at t names (end - 1)) alone alone) a.pins
                ∙ go (is_step_lem (vector_at t names end)) refl;
            ready = ready_later (omega arith) b.ready;
          }
        where
          go : (q : Bool) → is_step_lem (vector_at t names end) ≡ q
              → marked (end - 1) (vector_at t names (end - 1)) alone alone
              (marked m (vector_at t names m) alone alone l)
              ≡ marked end (vector_at t names end) alone alone l
          go true u = step_parts u
          go false u = sym (other_marked t names end h.is.ends s j.joined alone alone l n u)

-- the table is blank where the walk starts
pub first_walk : {t : List ℕ} {names end : ℕ} {rows l : List ℕ} → Tree t names end → rows ≡ replicate 256 0
    → l ≡ replicate 8192 0 → Walk t names end begun rows l
first_walk h e d =
    record {
      is = h;
      ready = record {
        wide = refl;
        room = ap length e;
        long = ap length d ∙ length-replicate {A = ℕ} 8192 0;
        few = omega arith;
        earlier = λ k u. absurd (omega arith);
        blank = λ i u. ap (λ (x : List ℕ). get_or x i 0) d ∙ zeros i 8192;
      };
    }
