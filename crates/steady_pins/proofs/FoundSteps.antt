-- The pins that are found for a step are the names that filling holds there.
--   agrees_kept              where each entry agrees with a test, the tests of the pins are those of the names
--   row-agrees               the entries of a step agree with `held`
--   step_found               so a step with its pins is the filled step
use Rattle.std.specs.Prelude.{if◌then◌else◌}
use Prim.Native.Nat.{ℕ, zero, suc, ◌-◌, ◌*◌, ◌<◌, ◌≤◌}
use native.Mathlib.Omega.{arith}
use mathlib.Core.Path.{◌≡◌, refl}
use mathlib.Core.Bool.{Bool, true, false, not, ◌&&◌, ◌||◌}
use mathlib.Core.List.{List}
use mathlib.Core.Logic.{◌⊎◌, inl, inr}
use lib.Dec.{eqb}
use lib.ListN.{length, get_or, replicate}
use lib.Seq.{sets}
use native.Mathlib.Nat.{zero-add}
use borrow.Author.Tests.{eq-eqb, ne_eqb}
use Rattle.basics.proofs.Bools.{equal?}
use Rattle.basics.proofs.Listed.{listed_at}
use Rattle.basics.proofs.Stores.{sets_inside}
use Rattle.alf.specs.Expressions.{Boolean, name, Vector, edge, join, with, stays}
use Rattle.alf.specs.Steady.{is_step_lem, moves, has_edge_on, kept}
use Rattle.steady_laws.specs.Beside as filling
use Rattle.steady_pins.specs.declared.finding.Beside.{Beside}
use Rattle.steady_pins.specs.Pinned.{pin_at, pinned}
use Rattle.steady_pins.specs.Finding.{own, pin_entry, pin_row, step_marked}
use Rattle.steady_pins.proofs.Placed.{Placed}
use Rattle.steady_pins.proofs.PinRanges.{row_long}
use Rattle.steady_pins.proofs.BesideLike.{Here, Entry, LikeBeside, own_like, none_like}

module _ (operand : ℕ → Boolean) where
  pub agrees_kept : (pins : List ℕ) (f : ℕ → Bool) (end n : ℕ) (p : Vector)
      → ((k : ℕ) → k < n → Entry operand k (pin_at pins end k) (f k))
      → pinned operand pins n end p ≡ kept n f p
  unfolding pinned kept
  agrees_kept pins f end zero p h = refl
  agrees_kept pins f end (suc n) p h =
      go (equal? (pin_at pins end n) 0) (agrees_kept pins f end n p (λ k u. h k (omega arith))) (h n (omega arith))
    where
      go : (pin_at pins end n ≡ 0) ⊎ (pin_at pins end n ≡ 0 → ⊥) → pinned operand pins n end p ≡ kept n f p
          → Entry operand n (pin_at pins end n) (f n)
          → (if eqb (pin_at pins end n) 0 then pinned operand pins n end p
          else join with (pinned operand pins n end p) (edge stays (operand (pin_at pins end n))))
          ≡ (if f n then join with (kept n f p) (edge stays (name n)) else kept n f p)
      go (inl e) r a = rw (eq-eqb _ 0 e, a.none e) r
      go (inr d) r a =
          let (t, o) = a.some (omega arith) in
          rw (ne_eqb _ 0 d, t, o, r) refl

  -- one entry: none where the step has an edge on the name, else a place beside it
  entry_agrees : {n before mine after : ℕ} {x y z : Bool} → Entry operand n before x → Entry operand n mine y
      → Entry operand n after z → Entry operand n (pin_entry before mine after) ((x || (y || z)) && not y)
  unfolding pin_entry
  entry_agrees {n} {before} {mine} {after} {x} {y} {z} a b c = go (equal? mine 0) (equal? before 0)
    where
      go : (mine ≡ 0) ⊎ (mine ≡ 0 → ⊥) → (before ≡ 0) ⊎ (before ≡ 0 → ⊥)
          → Entry operand n (if eqb mine 0 then (if eqb before 0 then after else before) else 0)
          ((x || (y || z)) && not y)
      go (inl e) (inl d) = rw (eq-eqb mine 0 e, eq-eqb before 0 d, a.none d, b.none e) (last z c)
        where
          last : (q : Bool) → Entry operand n after q → Entry operand n after (q && true)
          last true h = h
          last false h = h
      go (inl e) (inr d) =
          let (t, o) = a.some (omega arith) in
          rw (eq-eqb mine 0 e, ne_eqb before 0 d, t, b.none e)
          (record { none = λ w. absurd (d w); some = λ w. (refl, o) })
      go (inr e) d =
          let (t, o) = b.some (omega arith) in
          rw (ne_eqb mine 0 e, t) (record { none = λ w. never_both (x || true); some = λ w. absurd (omega arith) })
        where
          never_both : (q : Bool) → (q && false) ≡ false
          never_both true = refl
          never_both false = refl

  -- the places of a step's own names, none over nothing
  mine_entry : {end : ℕ} {p : Vector} → Placed (Here operand) end p → is_step_lem p ≡ true → (n : ℕ) → n < 32
      → Entry operand n (get_or (own end p (replicate 32 0)) n 0) (has_edge_on n p)
  mine_entry {end} {p} h s n u = bare (has_edge_on n p) ((own_like operand h s (none_like operand)).entry n u)
    where
      bare : (q : Bool) → Entry operand n (get_or (own end p (replicate 32 0)) n 0) (q || false)
          → Entry operand n (get_or (own end p (replicate 32 0)) n 0) q
      bare true a = a
      bare false a = a

  module _ {end : ℕ} {p : Vector} {b a : Beside} {x y : filling.Beside} (h : Placed (Here operand) end p)
      (s : is_step_lem p ≡ true) (l : LikeBeside operand b x) (r : LikeBeside operand a y) where
    row_entry : (n : ℕ) → n < 32
        → Entry operand n (get_or (pin_row b end p a) n 0)
        ((x.names n || (has_edge_on n p || y.names n)) && not (has_edge_on n p))
    unfolding pin_row
    row_entry n u =
        rw (
          listed_at 0 32 n (λ k. pin_entry (get_or b.places k 0) (get_or (own end p (replicate 32 0)) k 0)
              (get_or a.places k 0)) 0 u,
          zero-add,
        )
        (entry_agrees (l.places.entry n u) (mine_entry h s n u) (r.places.entry n u))

    -- in the table, where it has room and no pins at this step yet
    row_at : (t : List ℕ) (n : ℕ) → n < 32 → end * 32 ≤ length t → 0 < end
        → pin_at (sets t ((end - 1) * 32) (pin_row b end p a)) end n ≡ get_or (pin_row b end p a) n 0
    row_at t n u k e =
        let w = row_long b end p a in
        sets_inside t ((end - 1) * 32) (pin_row b end p a) n (omega arith) (omega arith)

    pub step_found : (t : List ℕ) → end * 32 ≤ length t → 0 < end → ((n : ℕ) → n < 32 → pin_at t end n ≡ 0)
        → pinned operand (step_marked b end p a t) 32 end p ≡ kept 32 (filling.held x p y) p
    unfolding step_marked filling.held
    step_found t k e z =
        agrees_kept _ _ end 32 p (λ n u. go (x.changing && (moves p && y.changing)) all_change n u)
      where
        all_change : (b.changing && (moves p && a.changing)) ≡ (x.changing && (moves p && y.changing))
        all_change = λ i. l.changing i && (moves p && r.changing i)

        go : (q : Bool) → (b.changing && (moves p && a.changing)) ≡ q → (n : ℕ) → n < 32
            → Entry operand n (pin_at (if b.changing && (moves p && a.changing)
            then sets t ((end - 1) * 32) (pin_row b end p a) else t) end n)
            (q && ((x.names n || (has_edge_on n p || y.names n)) && not (has_edge_on n p)))
        go true c n u = rw (c, row_at t n u k e) (row_entry n u)
        go false c n u = rw (c, z n u) (record { none = λ w. refl; some = λ w. absurd (omega arith) })
