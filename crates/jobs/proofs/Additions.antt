-- The sums of a table, one pattern after the other.
--   room_test                         the code's test of one sum
--   first_full .. last_fits           the four tests, one after the other
--   Fitting                           what four sums that fit are: each below 2^64
--   full_exactly                      full where one of the four is not, and only there
--   full_told, added_told             a pattern that is counted
--   counted_told, refused_told        any pattern
use Rattle.std.specs.Prelude.{Err, Ok}
use Rattle.std.specs.Prelude.{None, Some}
use Rattle.std.specs.Prelude.{if◌then◌else◌}
use Prim.Native.Nat.{ℕ, ◌+◌, ◌-◌, ◌<◌, ◌≤◌}
use native.Mathlib.Omega.{arith}
use mathlib.Core.Path.{◌≡◌, refl, sym, ◌∙◌}
use mathlib.Core.Bool.{Bool, true, false, not, ◌&&◌}
use mathlib.Core.Logic.{◌⊎◌, inl, inr}
use lib.Dec.{ltb, leb}
use borrow.Author.Tests.{ltb-true, lt-ltb, le-ltb, le-leb, lt-leb, not-true, not-false}
use Rattle.basics.specs.declared.Refusal.{Refusal}
use Rattle.basics.proofs.Bools.{below?, and_left, and_right}
use Rattle.matcher.specs.declared.tables.Total.{Total}
use Rattle.matching_calls.specs.Matching.{Counting}
use Rattle.table_lines.specs.declared.lines.Sums.{Sums}
use Rattle.jobs.specs.Sums.{Adding}
use Rattle.jobs.specs.Sums.{word, grown, fit, added_to}

pub room_test : (sum more : ℕ) → more < word → leb sum (18446744073709551615 - more) ≡ ltb (sum + more) word
room_test sum more h = go (below? (sum + more) word)
  where
    go : (sum + more < word) ⊎ (word ≤ sum + more)
        → leb sum (18446744073709551615 - more) ≡ ltb (sum + more) word
    go (inl l) = le-leb sum _ (omega arith) ∙ sym (lt-ltb (sum + more) word l)
    go (inr l) = lt-leb sum _ (omega arith) ∙ sym (le-ltb (sum + more) word l)

-- the four tests of the code: a that is no, and b, c and d behind it
module _ {p a : Bool} (e : p ≡ a) where
  no_test : (b : Bool) → not p ≡ true → false ≡ (a && b)
  no_test b h = rw (sym e ∙ not-true p h) refl

  yes_test : (b : Bool) → not p ≡ false → b ≡ (a && b)
  yes_test b h = rw (sym e ∙ not-false p h) refl

module _ (s : Sums) (t : Total) {p : Bool} (e : p ≡ ltb (s.yes + t.yes) word) where
  pub first_full : not p ≡ true → false ≡ fit (grown s t)
  unfolding fit grown
  first_full h = no_test e _ h

  module _ (h : not p ≡ false) {q : Bool} (f : q ≡ ltb (s.unknown + t.unknown) word) where
    pub second_full : not q ≡ true → false ≡ fit (grown s t)
    unfolding fit grown
    second_full k = no_test f _ k ∙ yes_test e _ h

    module _ (k : not q ≡ false) {r : Bool} (g : r ≡ ltb (s.no + t.no) word) where
      pub third_full : not r ≡ true → false ≡ fit (grown s t)
      unfolding fit grown
      third_full l = no_test g _ l ∙ yes_test f _ k ∙ yes_test e _ h

      pub last_fits : {x : Bool} → not r ≡ false → x ≡ ltb (s.patterns + 1) word → x ≡ fit (grown s t)
      unfolding fit grown
      last_fits l i = i ∙ yes_test g _ l ∙ yes_test f _ k ∙ yes_test e _ h

-- what sums that fit are
pub record Fitting (s : Sums) (t : Total) : Type 0 where
  pub yeses : s.yes + t.yes < word
  pub unknowns : s.unknown + t.unknown < word
  pub noes : s.no + t.no < word
  pub all : s.patterns + 1 < word

fitting : (s : Sums) (t : Total) → fit (grown s t) ≡ true → Fitting s t
unfolding fit grown
fitting s t h =
    let a = ltb (s.yes + t.yes) word in
    let b = ltb (s.unknown + t.unknown) word in
    let c = ltb (s.no + t.no) word in
    let d = ltb (s.patterns + 1) word in
    let i = and_right a (b && (c && d)) h in
    let j = and_right b (c && d) i in
    record {
      yeses = ltb-true _ _ (and_left a (b && (c && d)) h);
      unknowns = ltb-true _ _ (and_left b (c && d) i);
      noes = ltb-true _ _ (and_left c d j);
      all = ltb-true _ _ (and_right c d j);
    }

-- full where one of the four would be 2^64 or more, and only there
module _ (s : Sums) (t : Total) where
  full_where : (Fitting s t → ⊥) → added_to s (Ok t) ≡ None
  unfolding added_to
  full_where h = go (fit (grown s t)) refl
    where
      go : (b : Bool) → fit (grown s t) ≡ b → (if b then Some (grown s t) else None) ≡ None
      go true e = absurd (h (fitting s t e))
      go false e = refl

  full_only : added_to s (Ok t) ≡ None → Fitting s t → ⊥
  unfolding added_to fit grown
  full_only e h =
      let f = rw (
        lt-ltb (s.yes + t.yes) word h.yeses,
        lt-ltb (s.unknown + t.unknown) word h.unknowns,
        lt-ltb (s.no + t.no) word h.noes,
        lt-ltb (s.patterns + 1) word h.all,
      ) at e in
      let z : ◌≡◌ {A = ℕ} 0 1 = cc in omega arith

  pub full_exactly : ((Fitting s t → ⊥) → added_to s (Ok t) ≡ None)
      × (added_to s (Ok t) ≡ None → Fitting s t → ⊥)
  full_exactly = (full_where, full_only)

-- a pattern that is counted
module _ (s : Sums) (t : Total) {p : Bool} (e : p ≡ fit (grown s t)) where
  pub full_told : not p ≡ true → None ≡ added_to s (Ok t)
  unfolding added_to
  full_told h = rw (sym e ∙ not-true p h) refl

  pub fits_told : not p ≡ false → Fitting s t
  fits_told h = fitting s t (sym e ∙ not-false p h)

  pub added_told : not p ≡ false → Some (grown s t) ≡ added_to s (Ok t)
  unfolding added_to
  added_told h = rw (sym e ∙ not-false p h) refl

-- any pattern
pub counted_told : (s : Sums) {t : Total} {c : Counting} {a : Adding} → a ≡ added_to s (Ok t)
    → c ≡ Ok t → a ≡ added_to s c
counted_told s e f = rw f e

pub refused_told : {s : Sums} {r : Refusal} {c : Counting} → c ≡ Err r → Some s ≡ added_to s c
unfolding added_to
refused_told f = rw f refl
