-- A part of a list that is a boolean tree by itself is what the bytes before its end end with, whatever is before it.
--   stack_over     the bytes of a boolean expression put it on the stack
--   part_length, part_inside
--   alone
use Prim.Native.Nat.{ℕ, ◌+◌, ◌-◌, ◌<◌, ◌≤◌, min}
use native.Mathlib.Omega.{arith}
use mathlib.Core.Path.{◌≡◌, refl, ap, sym, ◌∙◌}
use mathlib.Core.Bool.{true}
use mathlib.Core.List.{List}
use lib.ListN.{length, take, drop, length-drop}
use lib.Seq.{take-add, length-take-le, drop_at, drop-drop, take-take}
use Rattle.alf.specs.declared.Sort.TheVariants as sort
use Rattle.alf.specs.Expressions.{Boolean, Expression, boolean, vector, ExpressionOver}
use Rattle.alf.specs.Bytes.{bytes_of}
use Rattle.alf.specs.Decoder.{Stack, empty, push, is_boolean, under, stack_at, Decodes}
use Rattle.basics.proofs.Bools.{never}
use Rattle.alf.proofs.Decoding.{bytes_decode, decode_over}
use Rattle.alf.proofs.FewNames.{stack_few, decodes_few}
use Rattle.alf.proofs.Encoding.{runs, runs_append, runs_stack, runs_boolean}
use Rattle.trees.specs.Parts.{top, EndsBoolean, Start}
use Rattle.trees.proofs.Starts.{of_boolean, ends_pos}
use Rattle.alf.specs.Values.{old_rules_lem}
use Rattle.acceptance.specs.Accepted.{Accepted}
use Rattle.acceptance.proofs.Acceptance.{accepted_boolean, accepted_decodes}

-- the bytes from m on, run on the stack before them
runs_on : (t : List ℕ) (names m n : ℕ) → m + n ≤ length t
    → stack_at t names (m + n) ≡ runs names (take n (drop m t)) (stack_at t names m)
runs_on t names m n h =
    runs_stack t names (m + n) h
    ∙ ap (λ (l : List ℕ). runs names l empty) (take-add m n t)
    ∙ runs_append names (take m t) (take n (drop m t)) empty
    ∙ ap (runs names (take n (drop m t))) (sym (runs_stack t names m (omega arith)))

-- the bytes of a boolean expression put it on any stack, with at most 32 names and so with any number
put : (w : List ℕ) (names : ℕ) (c : Boolean) (s : Stack) → names ≤ 32 → Decodes names w (boolean c)
    → runs names w s ≡ push (boolean c) s
unfolding bytes_of ExpressionOver
put w names c s few h =
    ap (λ (l : List ℕ). runs names l s) (sym (bytes_decode names w (boolean c) h))
    ∙ runs_boolean names few c (decode_over names w (boolean c) h) s

stack_over : (t : List ℕ) (names m n : ℕ) (c : Boolean) → m + n ≤ length t
    → Decodes names (take n (drop m t)) (boolean c)
    → stack_at t names (m + n) ≡ push (boolean c) (stack_at t names m)
stack_over t names m n c l h =
    stack_few t names (m + n)
    ∙ runs_on t (min names 32) m n l
    ∙ put (take n (drop m t)) (min names 32) c (stack_at t (min names 32) m) (omega arith) (decodes_few _ names _ h)
    ∙ ap (push (boolean c)) (sym (stack_few t names m))

-- the part of a list from m up to `end`
module _ (t : List ℕ) (names end m : ℕ) where
  abbrev pub part : List ℕ
  part = take (end - m) (drop m t)

  module _ (l : end ≤ length t) (b : m ≤ end) where
    pub part_length : length part ≡ end - m
    part_length = length-take-le (end - m) (drop m t) (omega (arith, length-drop m t))

    module _ (a : Accepted old_rules_lem names sort.Boolean part) where
      some : m < end
      some =
          let p = ends_pos (of_boolean (accepted_boolean part names a)) in
          omega (arith, part_length, p)

      -- the expression that it is, on top of what is before it
      over : (c : Boolean) → Decodes names part (boolean c)
          → stack_at t names end ≡ push (boolean c) (stack_at t names m)
      over c h =
          let e : m + (end - m) ≡ end = omega arith in
          ap (stack_at t names) (sym e) ∙ stack_over t names m (end - m) c (omega arith) h

      ends_with : (c : Boolean) → Decodes names part (boolean c) → EndsBoolean t names end × Start t names end m
      unfolding is_boolean under top
      ends_with c h =
          let s = over c h in
          let w = ap length (bytes_decode names part (boolean c) h) in (
            record { within = l; whole = rw s refl },
            record { is = rw s (omega (arith, w, part_length)); before = some; left = rw s refl },
          )

      pub alone : EndsBoolean t names end × Start t names end m
      unfolding Decodes is_boolean
      alone =
          let d = accepted_decodes a in
          go a.expression d (rw d at (accepted_boolean part names a).whole)
        where
          go : (e : Expression) → Decodes names part e → is_boolean (push e empty) ≡ true
              → EndsBoolean t names end × Start t names end m
          go (boolean c) h k = ends_with c h
          go (vector p) h k = never k

-- a part of a part is a part
drop_take : (k n : ℕ) (l : List ℕ) → k ≤ n → k ≤ length l → drop k (take n l) ≡ take (n - k) (drop k l)
drop_take k n l h b =
    let e : n ≡ k + (n - k) = omega arith in
    ap (λ (j : ℕ). drop k (take j l)) e
    ∙ ap (drop k) (take-add k (n - k) l)
    ∙ drop_at (take k l) (take (n - k) (drop k l)) k (length-take-le k l b)

pub part_inside : (t : List ℕ) (end low m : ℕ) → end ≤ length t → low ≤ m → m ≤ end
    → take (end - low - (m - low)) (drop (m - low) (take (end - low) (drop low t))) ≡ take (end - m) (drop m t)
part_inside t end low m l b c =
    let e : end - low - (m - low) ≡ end - m = omega arith in
    let d : low + (m - low) ≡ m = omega arith in
    ap (take (end - low - (m - low)))
    (drop_take (m - low) (end - low) (drop low t) (omega arith) (omega (arith, length-drop low t)))
    ∙ take-take (end - low - (m - low)) (end - low - (m - low)) (drop (m - low) (drop low t)) (omega arith)
    ∙ ap (take (end - low - (m - low))) (drop-drop (m - low) low t)
    ∙ rw (d, e) refl
