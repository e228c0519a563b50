-- The walk comes to a step of a tree.
--   step_next                               the step is next
--   step_many, step_row, step_rows          there is room for its row, and the run's rows are rows of the table
--   step_walked                             the walk over the step
use Prim.Native.Nat.{ℕ, ◌+◌, ◌-◌, ◌<◌}
use native.Mathlib.Omega.{arith}
use mathlib.Core.Path.{◌≡◌, ap, sym, ◌∙◌, subst}
use mathlib.Core.List.{List}
use lib.ListN.{length, set}
use Rattle.alf.specs.Expressions.{Vector}
use Rattle.alf.specs.Bytes.{vector_bytes}
use Rattle.trees.specs.Parts.{vector_at}
use Rattle.trees.proofs.Starts.{of_vector, of_boolean, ends_pos}
use Rattle.steady_pins.specs.declared.finding.Beside.{Beside}
use Rattle.steady_pins.specs.declared.finding.Run.{Run}
use Rattle.steady_pins.specs.Finding.{alone, stepped}
use Rattle.steady_pins.specs.Walking.{Followed, Rows, passed, own_row, StepWalk, Walked}
use Rattle.steady_pins.proofs.Starting.{vector_start}
use Rattle.steady_pins.proofs.TreeInduction.{began}
use Rattle.steady_pins.proofs.Placed.{placed_map, tree_placed}
use Rattle.steady_pins.proofs.StepEntries.{alone_passed}
use Rattle.steady_pins.proofs.NextSteps.{Next, step_onward}

module _ {tree : List ℕ} {names end : ℕ} {run : Run} {rows l : List ℕ} (h : StepWalk tree names end run rows l) where
  abbrev p : Vector
  p = vector_at tree names end

  starts : end - length (vector_bytes p) < end
  starts =
      let b = began tree names end (of_vector h.walk.is.ends) in
      omega (arith, b.start.before, vector_start tree names end h.walk.is.ends b.start)

  pub step_next : Next end p run rows l
  step_next =
      let r = h.walk.ready in
      record {
        placed = placed_map (λ i c o. ends_pos (of_boolean o.ends)) (tree_placed tree names end h.walk.is.ends);
        wide = r.wide;
        whole = r.room;
        many = omega (arith, r.few, starts);
        long = r.long;
        few = h.walk.is.few;
        earlier = λ k u. let c = r.earlier k u in omega (arith, starts);
        blank = λ i u. r.blank i (omega (arith, starts));
      }

  pub step_many : run.many < 256
  step_many = omega (arith, step_next.many, step_next.few)

  pub step_row : end - 1 < 256
  step_row = omega (arith, step_next.many, step_next.few)

  pub step_rows : Rows rows run.many l
  step_rows =
      let n = step_next in
      record {
        few = omega (arith, n.many, n.few);
        low = λ k u. let c = n.earlier k u in omega (arith, n.few);
        long = n.long;
      }

  pub step_walked : {mine beside : Beside} {l₁ l₂ : List ℕ} → mine ≡ stepped end p alone
      → Followed run.beside mine rows run.many l l₁
      → l₂ ≡ own_row run.beside mine (end - 1) l₁ → beside ≡ passed mine run.beside
      → Walked end p run rows l (record { beside = beside; many = run.many + 1 }) (set rows run.many (end - 1)) l₂
  step_walked {mine} {beside} {l₁} {l₂} e s f g =
      subst (λ (x : Beside). Walked end p run rows l (record { beside = x; many = run.many + 1 })
      (set rows run.many (end - 1)) l₂)
      (sym
      (g
      ∙ ap (λ (x : Beside). passed x run.beside) e
      ∙ alone_passed run.beside step_next.placed step_next.wide))
      (subst (Walked end p run rows l (record { beside = stepped end p run.beside; many = run.many + 1 })
      (set rows run.many (end - 1))) (sym (f ∙ ap (λ (x : Beside). own_row run.beside x (end - 1) l₁) e))
      (step_onward step_next (subst (λ (x : Beside). Followed run.beside x rows run.many l l₁) e s) h.step))
