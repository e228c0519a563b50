-- The walk over one step, behind a run: what is known, for whatever comes after, when the step has been walked over.
--   Next                                    a step is next
--   step_settled                            the table then
--   step_ready, step_onward                 what the walk is then ready for; all that it gives
use Rattle.std.specs.Prelude.{if◌then◌else◌}
use Prim.Native.Nat.{ℕ, ◌+◌, ◌-◌, ◌*◌, ◌<◌, ◌≤◌}
use native.Mathlib.Omega.{arith}
use mathlib.Core.Path.{◌≡◌, refl, ap, sym, ◌∙◌, subst}
use mathlib.Core.Bool.{Bool, true, false, ◌&&◌, ◌||◌}
use mathlib.Core.List.{List}
use mathlib.Core.Logic.{◌⊎◌, inl, inr}
use lib.Dec.{eqb}
use lib.ListN.{length, get_or, set, replicate, length-set}
use lib.Seq.{get_or-set_same, get_or-set_other}
use borrow.Author.Tests.{eq-eqb, ne_eqb}
use Rattle.basics.proofs.Bools.{equal?}
use Rattle.alf.specs.Expressions.{Vector}
use Rattle.alf.specs.Steady.{is_step_lem, moves}
use Rattle.steady_pins.specs.declared.finding.Beside.{Beside}
use Rattle.steady_pins.specs.declared.finding.Run.{Run}
use Rattle.steady_pins.specs.Finding.{own, alone, stepped, pin_entry, pin_row, step_marked}
use Rattle.steady_pins.specs.Walking.{cell, among, over, settled_entry, Followed, own_row, Ready, Walked}
use Rattle.steady_pins.proofs.BesideParts.{step_front, step_back, step_marked_lem}
use Rattle.steady_pins.proofs.Placed.{Placed}
use Rattle.steady_pins.proofs.MarkedPins.{step_long}
use Rattle.steady_pins.proofs.OwnPlaces.{own_length, own_over}
use Rattle.steady_pins.proofs.StepEntries.{own_entry, earlier_entry}
use Rattle.steady_pins.proofs.WalkedRows.{among_none, among_more, rowed_long, rowed_own, rowed_behind}
use Rattle.steady_pins.proofs.WalkedRows.{rowed_other, settled_kept, settled_blank}

or_false : (q : Bool) → (q || false) ≡ q
or_false true = refl
or_false false = refl

-- a step that ends at `end` is next, behind a run: its places are there, and its row is blank
pub record Next (end : ℕ) (p : Vector) (run : Run) (rows l : List ℕ) : Type 0 where
  pub placed : Placed (λ i c. 0 < i) end p
  pub wide : length run.beside.places ≡ 32
  pub whole : length rows ≡ 256
  pub many : run.many < end
  pub long : length l ≡ 8192
  pub few : end ≤ 256
  pub blank : (i : ℕ) → (end - 1) * 32 ≤ i → get_or l i 0 ≡ 0
  pub earlier : (k : ℕ) → k < run.many → get_or rows k 0 < end - 1

module _ {end : ℕ} {p : Vector} {run : Run} {rows l l₁ : List ℕ} (h : Next end p run rows l)
    (s : Followed run.beside (stepped end p alone) rows run.many l l₁) where
  abbrev row : ℕ
  row = end - 1

  abbrev B : Beside
  B = run.beside

  abbrev mine : ℕ → ℕ
  mine n = get_or (own end p (replicate 32 0)) n 0

  -- the table, and whether a row is one of the run's, when the step has been walked over
  abbrev written : List ℕ
  written = own_row B (stepped end p alone) row l₁

  abbrev later_among : ℕ → Bool
  later_among r = among (set rows run.many row) (run.many + 1) r

  room : run.many < length rows
  room = omega (arith, h.whole, h.many, h.few)

  no : among rows run.many row ≡ false
  no = among_none rows run.many row h.earlier

  more : (r : ℕ) → later_among r ≡ (among rows run.many r || eqb row r)
  more r = among_more rows run.many row r room

  none : (n : ℕ) → cell l row n ≡ 0
  none n = h.blank (row * 32 + n) (omega arith)

  written_long : length written ≡ length l
  unfolding own_row
  written_long = rowed_long l₁ row _ (B.changing && (moves p && true)) ∙ s.long

  fits : (x : List ℕ) → length x ≡ length l → row * 32 + 32 ≤ length x
  fits x e = omega (arith, h.long, h.many, h.few)

  module _ (after : Beside) (m : List ℕ) (v : length after.places ≡ 32)
      (t : Followed B (stepped end p after) rows run.many l m) (n : ℕ) (u : n < 32) where
    abbrev b : ℕ
    b = get_or B.places n 0

    abbrev a : ℕ
    a = get_or after.places n 0

    before_here : over (mine n) b ≡ get_or (own end p B.places) n 0
    before_here = sym (own_over n u h.placed B.places h.wide)

    at_own : cell (step_marked B end p after m) row n
        ≡ settled_entry ((moves p && B.changing) && later_among row) after.changing
        (get_or (own end p B.places) n 0) a (cell written row n)
    unfolding step_marked pin_row own_row
    at_own =
        rowed_own m row (λ k. pin_entry (get_or B.places k 0) (mine k) (get_or after.places k 0))
        (B.changing && (moves p && after.changing)) n u (fits m t.long)
        ∙ ap (λ (x : ℕ). if B.changing && (moves p && after.changing) then pin_entry b (mine n) a else x)
        (settled_kept t row n (omega (arith, h.many, h.few)) u no ∙ none n)
        ∙ own_entry B.changing (moves p) after.changing b (mine n) a
        ∙ (λ i. settled_entry ((moves p && B.changing) && here i) after.changing (before_here i) a (kept i))
      where
        here : true ≡ later_among row
        here = sym (more row ∙ rw (no, eq-eqb row row refl) refl)

        kept : (if B.changing && (moves p && true) then pin_entry b (mine n) 0 else 0) ≡ cell written row n
        kept = sym
            (rowed_own l₁ row (λ k. pin_entry (get_or B.places k 0) (mine k) 0) (B.changing && (moves p && true)) n u
            (fits l₁ s.long)
            ∙ ap (λ (x : ℕ). if B.changing && (moves p && true) then pin_entry b (mine n) 0 else x)
            (settled_kept s row n (omega (arith, h.many, h.few)) u no ∙ none n))

    at_other : (r : ℕ) → r < 256 → (r ≡ row → ⊥)
        → cell (step_marked B end p after m) r n
        ≡ settled_entry ((moves p && B.changing) && later_among r) after.changing
        (get_or (own end p B.places) n 0) a (cell written r n)
    unfolding step_marked pin_row own_row
    at_other r c d =
        rowed_other m row _ (B.changing && (moves p && after.changing)) r n d u
        ∙ t.entry r n c u
        ∙ ap (λ (x : ℕ).
        settled_entry (B.changing && among rows run.many r) (moves p && after.changing) b x (cell l r n))
        (own_over n u h.placed after.places v)
        ∙ earlier_entry B.changing (moves p) after.changing (among rows run.many r) b (mine n) a (cell l r n)
        ∙ (λ i. settled_entry ((moves p && B.changing) && here i) after.changing (before_here i) a (kept i))
      where
        here : among rows run.many r ≡ later_among r
        here = sym (more r ∙ rw (ne_eqb row r (λ e. d (sym e))) (or_false (among rows run.many r)))

        kept : settled_entry (B.changing && among rows run.many r) (moves p && true) b (mine n) (cell l r n)
            ≡ cell written r n
        kept = sym
            (rowed_other l₁ row _ (B.changing && (moves p && true)) r n d u
            ∙ s.entry r n c u)

  step_settled : (after : Beside) (m : List ℕ) → length after.places ≡ 32
      → Followed B (stepped end p after) rows run.many l m
      → Followed (stepped end p B) after (set rows run.many row) (run.many + 1) written (step_marked B end p after m)
  step_settled after m v t =
      record { long = as_long; entry = λ r n c u. go r n c u (equal? r row) }
    where
      as_long : length (step_marked B end p after m) ≡ length written
      as_long = step_long B end p after m ∙ t.long ∙ sym (written_long)

      go : (r n : ℕ) → r < 256 → n < 32 → (r ≡ row) ⊎ (r ≡ row → ⊥)
          → cell (step_marked B end p after m) r n
          ≡ settled_entry ((moves p && B.changing) && later_among r) after.changing
          (get_or (own end p B.places) n 0) (get_or after.places n 0) (cell written r n)
      go r n c u (inl e) = rw e (at_own after m v t n u)
      go r n c u (inr d) = at_other after m v t n u r c d

  written_blank : (i : ℕ) → end * 32 ≤ i → get_or written i 0 ≡ 0
  unfolding own_row
  written_blank i u =
      rowed_behind l₁ row _ (B.changing && (moves p && true)) i (omega (arith, h.many))
      ∙ settled_blank s row h.long h.earlier h.blank i (omega (arith, h.many))

  -- what the walk over the step gives
  abbrev Onward : Run
  Onward = record { beside = stepped end p B; many = run.many + 1 }

  step_ready : Ready end Onward (set rows run.many row) written
  step_ready =
      record {
        wide = own_length end p B.places ∙ h.wide;
        room = length-set rows run.many row ∙ h.whole;
        long = written_long ∙ h.long;
        few = omega (arith, h.many);
        earlier = λ k u. go k u (equal? k run.many);
        blank = written_blank;
      }
    where
      go : (k : ℕ) → k < run.many + 1 → (k ≡ run.many) ⊎ (k ≡ run.many → ⊥)
          → get_or (set rows run.many row) k 0 < end
      go k u (inl e) = rw (e, get_or-set_same rows run.many row 0 room) (omega (arith, h.many))
      go k u (inr d) =
          let c = h.earlier k (omega arith) in
          rw (get_or-set_other rows run.many k row 0 d) (omega arith)

  pub step_onward : is_step_lem p ≡ true → Walked end p run rows l Onward (set rows run.many row) written
  step_onward q =
      record {
        last = sym (step_back end B p q);
        ready = step_ready;
        pins = λ after m v t.
            subst (Followed (stepped end p B) after (set rows run.many row) (run.many + 1) written)
            (sym (step_marked_lem end B after m p q))
            (step_settled after m v
            (subst (λ (x : Beside). Followed B x rows run.many l m) (step_front end after p q) t));
      }
