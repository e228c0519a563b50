-- The flags of all alternatives, quantifier by quantifier.
--   row_no, row_both                     the literals of a row, by the step that leads to it and the one that leads on
--   any_below                            `any` over the numbers below n
--   possible_is, contradictory_is        as `some` of a test
--   flag_from                            `u8::from` of a bool is its flag
--   Flagging, flagging_first, -rows, -next, -end     the flags, one alternative after the other
use Prim.Native.Nat.{ℕ, zero, suc, ◌+◌, ◌<◌, ◌≤◌}
use native.Mathlib.Omega.{arith}
use native.Mathlib.Nat.{add-zero}
use native.Mathlib.Numerals.{add-one}
use mathlib.Core.Path.{◌≡◌, refl, ap, sym, ◌∙◌, fun_ext}
use mathlib.Core.Bool.{Bool, true, false, not, ◌&&◌, ◌||◌}
use mathlib.Core.List.{List, [], ◌∷◌, map}
use lib.ListN.{length, get_or, take, drop, set, length-map}
use lib.Seq.{drop-cons}
use mir.Val.{bool_byte}
use Rattle.std.specs.List.{list_any, range_with_len}
use Rattle.basics.specs.Words.{some}
use Rattle.alf.specs.Expressions.{Half}
use Rattle.alf.specs.Alternatives.{Test, Alternative, halves, first, second, possible, contradictory}
use Rattle.basics.proofs.Bools.{never}
use Rattle.alternatives.specs.InMemory.{cut, tests_of, sum, step_in, alternative_in, alternatives_in, alternatives_of_lem}
use Rattle.alternatives.proofs.Cuts.{cut_length, sum_next, sum_part_drop, tests_length}
use Rattle.matcher.proofs.Walking.{alternatives_next}
use Rattle.contradictions.specs.Possible.{side_of, allowed, row_literals, impossible}
use Rattle.contradictions.specs.Possible.{flag_of, flag_list, Rows, Reported}
use Rattle.contradictions.specs.Possible.{Flagged}
use Rattle.rewriting.proofs.Filling.{mapped_there, mapped_at}
use Rattle.contradictions.proofs.Allowing.{allowed_append}
use Rattle.basics.proofs.Stores.{Writing, writing_first, writing_length, writing_next_front, writing_front}

module _ (all : List Test) (t b n name s : ℕ) {r : Bool}
    (e : r ≡ allowed (halves (side_of true) name (step_in all t b)) s) where
  both : allowed (row_literals all t b n name) s
      ≡ (allowed (halves (side_of true) name (step_in all t b)) s
      && allowed (halves (side_of false) name (step_in all (t + b) n)) s)
  unfolding row_literals side_of
  both = allowed_append (second name (step_in all t b)) (first name (step_in all (t + b) n)) s

  pub row_no : not r ≡ true → false ≡ allowed (row_literals all t b n name) s
  row_no f = go r e f
    where
      go : (q : Bool) → q ≡ allowed (halves (side_of true) name (step_in all t b)) s → not q ≡ true
          → false ≡ allowed (row_literals all t b n name) s
      go true d f = never f
      go false d f = sym (both ∙ rw (sym d) refl)

  pub row_both : {q : Bool} → not r ≡ false → q ≡ allowed (halves (side_of false) name (step_in all (t + b) n)) s
      → q ≡ allowed (row_literals all t b n name) s
  row_both {q} f k = go r e f
    where
      go : (p : Bool) → p ≡ allowed (halves (side_of true) name (step_in all t b)) s → not p ≡ false
          → q ≡ allowed (row_literals all t b n name) s
      go true d f = k ∙ sym (both ∙ rw (sym d) refl)
      go false d f = never (sym f)

-- `any` over the numbers below n
or_no : (p : Bool) → (false || p) ≡ (p || false)
or_no true = refl
or_no false = refl

or_assoc : (p q r : Bool) → ((p || q) || r) ≡ (p || (q || r))
or_assoc true q r = refl
or_assoc false q r = refl

from_zero : (i : ℕ) → 0 + i ≡ i
from_zero i = omega arith

next_below : (a i : ℕ) → a + 1 + i ≡ a + suc i
next_below a i = omega arith

some_head : (n : ℕ) (p : ℕ → Bool) → some (suc n) p ≡ (p 0 || some n (λ i. p (suc i)))
unfolding some
some_head zero p = or_no (p 0)
some_head (suc n) p =
    ap (λ (b : Bool). b || p (suc n)) (some_head n p) ∙ or_assoc (p 0) (some n (λ i. p (suc i))) (p (suc n))

any_from : (p : ℕ → Bool) (a n : ℕ) → list_any p (range_with_len a n) ≡ some n (λ i. p (a + i))
unfolding some
any_from p a zero = refl
any_from p a (suc n) =
    ap (λ (b : Bool). p a || b)
    (any_from p (a + 1) n ∙ ap (some n) (fun_ext (λ i. ap p (next_below a i))))
    ∙ sym (some_head n (λ i. p (a + i)) ∙ ap (λ (k : ℕ). p k || some n (λ i. p (a + suc i))) (add-zero a))

pub any_below : (p : ℕ → Bool) (n : ℕ) → list_any p (range_with_len 0 n) ≡ some n p
any_below p n = any_from p 0 n ∙ ap (some n) (fun_ext (λ i. ap p (from_zero i)))

pub possible_is : (hs : List Half) → some 8 (allowed hs) ≡ possible hs
unfolding possible allowed
possible_is hs = refl

pub contradictory_is : (names : ℕ) (x : Alternative) → some names (impossible x) ≡ contradictory names x
unfolding contradictory impossible
contradictory_is names x = refl

pub flag_from : (b : Bool) → bool_byte b ≡ flag_of b
unfolding flag_of
flag_from true = refl
flag_from false = refl

-- the flags
abbrev flag_for : ℕ → Alternative → ℕ
flag_for names x = flag_of (contradictory names x)

pub record Flagging (names : ℕ) (steps tests : List ℕ) (all : List Test) (flags₀ flags : List ℕ) (s t k : ℕ)
    : Type 0 where
  pub within : k ≤ length steps
  pub steps_room : s + sum (drop k steps) ≤ length tests
  pub tests_room : t + sum (drop s tests) ≤ length all
  pub left : drop k (cut steps (cut tests all)) ≡ alternatives_in steps tests all k s t
  pub flags_are : Writing flags₀ 0 (map (flag_for names) (cut steps (cut tests all))) flags k

module _ {tree : List ℕ} {names : ℕ} {steps tests edges operands flags₀ : List ℕ}
    (h : Reported tree names steps tests edges operands flags₀) where
  abbrev all : List Test
  all = tests_of tree names edges operands

  abbrev ys : List Alternative
  ys = cut steps (cut tests all)

  whole : length all ≡ length edges
  whole = tests_length tree names edges operands h.shape.known.enough

  number : length ys ≡ length steps
  number = cut_length steps (cut tests all)

  pub flagging_first : Flagging names steps tests all flags₀ flags₀ 0 0 0
  flagging_first =
      record {
        within = omega arith;
        steps_room = omega (arith, h.shape.enough_steps);
        tests_room = omega (arith, h.shape.enough_tests, whole);
        left = refl;
        flags_are = writing_first;
      }

  module _ {flags : List ℕ} {s t k : ℕ} (g : Flagging names steps tests all flags₀ flags s t k) where
    pub flags_length : length flags ≡ length flags₀
    flags_length = writing_length g.flags_are

    module _ (l : k < length steps) where
      pub flag_room : k < length flags
      flag_room = omega (arith, flags_length, h.room)

      pub flagging_rows : Rows tree names tests edges operands s (get_or steps k 0) t
      flagging_rows =
          record {
            known = h.shape.known;
            there = omega (arith, sum_next steps k l, g.steps_room);
            tested = omega (arith, g.tests_room, whole);
          }

      apart : get_or ys k [] ∷ drop (suc k) ys
          ≡ alternative_in tests all s t (get_or steps k 0)
          ∷ alternatives_in steps tests all (k + 1) (s + get_or steps k 0)
          (t + sum (take (get_or steps k 0) (drop s tests)))
      apart =
          sym (drop-cons ys k [] (omega (arith, number))) ∙ g.left ∙ alternatives_next steps tests all k s t l

      pub flagging_next : {r : Bool} {v : ℕ}
          → r ≡ contradictory names (alternative_in tests all s t (get_or steps k 0)) → v ≡ flag_of r
          → Flagging names steps tests all flags₀ (set flags k v) (s + get_or steps k 0)
          (t + sum (take (get_or steps k 0) (drop s tests))) (k + 1)
      flagging_next e d =
          let x = ap (λ (xs : List Alternative). get_or xs 0 []) apart in
          let f = d ∙ ap flag_of (e ∙ ap (contradictory names) (sym x)) in
          let there : k < length ys = omega (arith, number) in
          record {
            within = omega arith;
            steps_room = omega (arith, sum_next steps k l, g.steps_room);
            tests_room = omega (arith, sum_part_drop tests s (get_or steps k 0), g.tests_room);
            left = ap (λ (n : ℕ). drop n ys) (add-one k) ∙ ap (drop 1) apart;
            flags_are =
                writing_next_front g.flags_are (mapped_there (flag_for names) ys there)
                (mapped_at (flag_for names) ys [] there f);
          }

    pub flagging_end : length steps ≤ k
        → Flagged names (alternatives_of_lem tree names steps tests edges operands) flags₀ flags
    unfolding alternatives_of_lem flag_list
    flagging_end l =
        let n = length-map ys (flag_for names) in
        record { flags_are = writing_front g.flags_are (omega (arith, number)) (omega (arith, number, h.room)) }
