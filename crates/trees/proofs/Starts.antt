-- The way back from the end of a part to its start, by bytes or by whole parts.
-- Main names: Going, going_first, going_on (a byte), going_part (a part), going_done; ends_pos, whole_deep, whole_at,
-- start_unique.
use Prim.Native.Nat.{ℕ, zero, suc, ◌+◌, ◌-◌, ◌<◌, ◌≤◌}
use native.Mathlib.Omega.{arith}
use mathlib.Core.Path.{◌≡◌, refl, ap, ◌∙◌}
use mathlib.Core.Bool.{true}
use mathlib.Core.List.{List}
use lib.ListN.{get_or, length}
use Rattle.alf.specs.Bytes.{bytes_of}
use Rattle.alf.specs.Decoder.{Stack, empty, broken, push, under, arity_at, stack_at, is_boolean, is_vector}
use Rattle.basics.proofs.Bools.{never}
use Rattle.alf.proofs.Parts.{deep, unders, size, back, deep_le, deep_under, size_under}
use Rattle.trees.specs.Parts.{is_whole, top, Ends, EndsBoolean, EndsVector, Start}

pub whole_deep : (s : Stack) → is_whole s ≡ true → deep 1 s
unfolding is_whole deep
whole_deep empty h = never h
whole_deep broken h = never h
whole_deep (push e s) h = tt

pub deep_whole : (s : Stack) → deep 1 s → is_whole s ≡ true
unfolding is_whole deep
deep_whole empty h = absurd h
deep_whole broken h = absurd h
deep_whole (push e s) h = refl

pub deep_one : (n : ℕ) (s : Stack) → deep (suc n) s → deep 1 s
unfolding deep
deep_one n empty h = absurd h
deep_one n broken h = absurd h
deep_one n (push e s) h = tt

-- an expression that a byte takes is there
pub whole_at : (k n : ℕ) (s : Stack) → k < n → deep n s → is_whole (unders k s) ≡ true
unfolding unders
whole_at zero zero s l d = absurd (omega arith)
whole_at (suc k) zero s l d = absurd (omega arith)
whole_at zero (suc n) s l d = deep_whole s (deep_one n s d)
whole_at (suc k) (suc n) s l d = whole_at k n (under s) (omega arith) (deep_under n s d)

top_size : (s : Stack) → deep 1 s → size 1 s ≡ length (bytes_of (top s))
unfolding deep size top
top_size empty h = absurd h
top_size broken h = absurd h
top_size (push e s) h = omega arith

boolean_whole : (s : Stack) → is_boolean s ≡ true → is_whole s ≡ true
unfolding is_boolean is_whole
boolean_whole empty h = h
boolean_whole broken h = h
boolean_whole (push e s) h = refl

vector_whole : (s : Stack) → is_vector s ≡ true → is_whole s ≡ true
unfolding is_vector is_whole
vector_whole empty h = h
vector_whole broken h = h
vector_whole (push e s) h = refl

pub of_boolean : {t : List ℕ} {names end : ℕ} → EndsBoolean t names end → Ends t names end
of_boolean h = record { within = h.within; whole = boolean_whole _ h.whole }

pub of_vector : {t : List ℕ} {names end : ℕ} → EndsVector t names end → Ends t names end
of_vector h = record { within = h.within; whole = vector_whole _ h.whole }

pub ends_pos : {t : List ℕ} {names end : ℕ} → Ends t names end → 0 < end
ends_pos {t} {names} {end} h = deep_le t names end 1 (whole_deep _ h.whole)

-- on the way back from `end`: `need` expressions are still to be passed
pub record Going (t : List ℕ) (names end at need : ℕ) : Type 0 where
  pub low : at ≤ end
  pub moved : 0 < need + (end - at)
  pub few : need ≤ at
  pub has : deep need (stack_at t names at)
  pub same : unders need (stack_at t names at) ≡ under (stack_at t names end)
  pub left : size need (stack_at t names at) + (end - at) ≡ length (bytes_of (top (stack_at t names end)))

pub going_first : {t : List ℕ} {names end : ℕ} → Ends t names end → Going t names end end 1
unfolding unders
going_first {t} {names} {end} h =
    let p = ends_pos h in
    let d = whole_deep _ h.whole in
    let e = top_size (stack_at t names end) d in
    record { low = omega arith; moved = omega arith; few = p; has = d; same = refl; left = omega arith }

pub going_on : (t : List ℕ) (names end at need : ℕ) → Going t names end at need → 0 < need
    → Going t names end (at - 1) (need - 1 + arity_at (get_or t (at - 1) 0))
going_on t names end at zero g p = absurd (omega arith)
going_on t names end at (suc n) g p =
    let l = g.low in
    let f = g.few in
    let q : 0 < at = omega arith in
    let b = back t names at n q g.has in
    let e = b.less in
    let k = g.left in
    let o : suc n - 1 ≡ n = omega arith in
    rw o
    (record {
      low = omega arith;
      moved = omega arith;
      few = deep_le t names (at - 1) _ b.has;
      has = b.has;
      same = b.same ∙ g.same;
      left = omega arith;
    })

pub going_part : (t : List ℕ) (names end at need m : ℕ) → Going t names end at (suc need) → Start t names at m
    → Going t names end m need
unfolding unders
going_part t names end at need m g s =
    let l = g.low in
    let b = s.before in
    let i = s.is in
    let d = g.has in
    let k = g.left in
    let h : deep need (stack_at t names m) = rw s.left (deep_under need _ d) in
    let e = top_size (stack_at t names at) (deep_one need _ d) in
    let z : size (suc need) (stack_at t names at) ≡ size 1 (stack_at t names at) + size need (stack_at t names m) =
    rw s.left (size_under need _ d)
    in
    record {
      low = omega arith;
      moved = omega arith;
      few = deep_le t names m need h;
      has = h;
      same = ap (unders need) s.left ∙ g.same;
      left = omega arith;
    }

pub going_done : {t : List ℕ} {names end at need : ℕ} → Going t names end at need → need ≤ 0
    → Start t names end at
unfolding unders size
going_done {t} {names} {end} {at} {need = zero} g p =
    let l = g.moved in
    let m = g.low in
    let k = g.left in
    record { is = omega arith; before = omega arith; left = g.same }
going_done {t} {names} {end} {at} {need = suc n} g p = absurd (omega arith)

-- a part starts in one place only
pub start_unique : {t : List ℕ} {names end a b : ℕ} → Start t names end a → Start t names end b → a ≡ b
start_unique x y = let e = x.is in let d = y.is in omega arith
