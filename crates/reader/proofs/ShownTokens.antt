-- What 5, 6 and 7 show: the place of each is a token's, or the text's end.
--   behind_first                   what is left of a text behind some bytes
--   Held, tokens_held, end_held    the bytes counted at a place are those that a refusal shows
--   stuck_place, unknown_place     what holds at each token's place, and at the end, holds where 5 and 6 are given
--   Within, sorted_within, call_within   and where a faulty operator is
--   within_at, stopped_within      .. by the place that is told
use Rattle.std.specs.Prelude.{if◌then◌else◌}
use mathlib.Core.Path.{◌≡◌, refl, sym, ap, ◌∙◌}
use mathlib.Core.Bool.{Bool, true, false}
use mathlib.Core.List.{List, [], ◌∷◌, ◌++◌}
use Prim.Native.Nat.{ℕ, ◌+◌}
use native.Mathlib.Omega.{arith}
use native.Mathlib.Numerals.{add-one}
use lib.Dec.{eqb, ltb}
use lib.ListN.{length, drop, drop_of_length-le}
use lib.Seq.{drop-drop, drop-append_seam}
use Rattle.basics.proofs.Bools.{never}
use Rattle.basics.proofs.AllEntries.{All, none, more}
use Rattle.alf.specs.declared.Sort.{Sort}
use Rattle.alf.specs.declared.Sort.TheVariants as the_sort
use Rattle.alf.specs.Expressions.{Expression, boolean, vector}
use Rattle.alf.specs.States.{among}
use Rattle.alf.specs.Names.{starts_name, is_letter}
use Rattle.token_steps.specs.Classes.{half_of}
use Rattle.token_steps.specs.Taking.{Taken}
use Rattle.token_steps.specs.Spelling.{spellings}
use Rattle.token_steps.specs.Steps.{step_of, plain_step, first_of, starts}
use Rattle.tokens.specs.Texts as texts
use Rattle.tokens.specs.Texts.{Reads, done, blank, token}
use Rattle.tokens.specs.Extents as extents
use Rattle.tokens.specs.Extents.{OfToken, Extent}
use Rattle.tokens.proofs.Theorems.{step_complete_taken}
use Rattle.grammar.specs.declared.Token.{Token}
use Rattle.grammar.specs.Tokens.{tokens}
use Rattle.grammar.specs.Grammar.{Tree, leaf, one, two, three, nodes}
use Rattle.grammar.specs.Answers.{Stuck, with_token, with_end}
use Rattle.sorting.specs.declared.sorts.Sorting.{Sorting}
use Rattle.sorting.specs.Sorts.{Sorted, is, faulty, of_one, of_two, of_three, given, asked, sorted, sorted_for}
use Rattle.sorting.specs.Passes.{settled, Shows, goes, stops}
use Rattle.reader.specs.Texts.{tokens_of}
use Rattle.reader.specs.Reads.{size_of, shown_at}
use Rattle.reader.specs.Reading.{Stands, here, there}

-- the bytes counted at p are those that 5, 6 or 7 shows there
abbrev pub Held : List ℕ → ℕ → Type 0
Held text p = (n : ℕ) → among n OfToken ≡ true → Extent text n p (shown_at text p)

taken_held : (text : List ℕ) (p : ℕ) {b c : ℕ} {bs w after : List ℕ} → drop p text ≡ b ∷ bs
    → Taken (b ∷ bs) w c after → Held text p
taken_held text p {c = c} {w = w} {after = after} e t n h =
    extents.token {w = w} {after = after} {c = c} h (rw e t)
    (ap (λ (ds : List ℕ). size_of (step_of ds)) e ∙ ap size_of (step_complete_taken t))

-- what is left behind the first bytes
pub behind_first : (text : List ℕ) (p : ℕ) (w : List ℕ) {after : List ℕ} → drop p text ≡ w ++ after
    → drop (p + length w) text ≡ after
behind_first text p w {after} e = sym (drop-drop (length w) p text) ∙ ap (drop (length w)) e ∙ drop-append_seam w after

pub tokens_held : (text : List ℕ) {p : ℕ} {bs : List ℕ} {ts : List texts.Token} → Reads p bs ts → drop p text ≡ bs
    → All (λ (t : Token). Held text t.place) (tokens_of ts)
unfolding tokens
tokens_held text done e = none
tokens_held text (blank {p = p} {b = b} h r) e =
    let l : drop (p + 1) text ≡ _ = behind_first text p (b ∷ []) e in tokens_held text r (rw add-one at l)
tokens_held text (token {p = p} {c = c} {w = w} {after = after} h t r) e =
    more {x = record { code = c; place = p }} (taken_held text p e t)
    (tokens_held text r (behind_first text p w (e ∙ t.there)))

none_there : size_of (step_of []) ≡ 0
unfolding step_of plain_step first_of spellings starts starts_name is_letter half_of among
none_there = refl

pub end_held : (text : List ℕ) → Held text (length text)
end_held text n h =
    let end = drop_of_length-le text {i = length text} (omega arith) in
    extents.at_end h refl (ap (λ (ds : List ℕ). size_of (step_of ds)) end ∙ none_there)

-- what holds at each token's place
module _ (P : ℕ → Type 0) where
  abbrev pub At : List Token → Type 0
  At ts = All (λ (t : Token). P t.place) ts

  front : (xs ys : List Token) → At (xs ++ ys) → At xs
  front [] ys a = none
  front (x ∷ xs) ys (more h a) = more h (front xs ys a)

  back : (xs ys : List Token) → At (xs ++ ys) → At ys
  back [] ys a = a
  back (x ∷ xs) ys (more h a) = back xs ys a

  first : {t : Token} {ts : List Token} → At (t ∷ ts) → P t.place
  first (more h a) = h

  pub stuck_place : {ts : List Token} {bytes p : ℕ} → At ts → P bytes → Stuck ts bytes p → P p
  stuck_place a e (with_token before rest t is_it q f) = rw q (first (back before (t ∷ rest) (rw is_it at a)))
  stuck_place a e (with_end q f) = rw q e

  pub unknown_place : {p : ℕ} {ts : List texts.Token} → Stands p ts → At (tokens_of ts) → P p
  unfolding tokens
  unknown_place here (more h a) = h
  unknown_place (there s) (more h a) = unknown_place s a

  -- a fault is at such a place
  pub data Within : Sorted → Type 0 where
    fine : {x : Expression} → Within (is x)
    at : {p : ℕ} → P p → Within (faulty p)

  either : (b : Bool) {x y : Sorted} → Within x → Within y → Within (if b then x else y)
  either true g h = g
  either false g h = h

  given_within : {q : Sorted} (f : Expression → Sorted) → Within q → ((x : Expression) → Within (f x))
      → Within (given q f)
  unfolding given
  given_within f (fine {x = x}) g = g x
  given_within f (at h) g = at h

  module _ (t : Token) (h : P t.place) where
    one_within : (x : Expression) → Within (of_one t x)
    unfolding of_one
    one_within (boolean c) = either (eqb t.code 147) fine fine
    one_within (vector p) = at h

    two_within : (x y : Expression) → Within (of_two t x y)
    unfolding of_two
    two_within (boolean a) (boolean b) = either (ltb t.code 50) fine (at h)
    two_within (boolean a) (vector q) = either (eqb t.code 40) fine (at h)
    two_within (vector p) (boolean b) = either (eqb t.code 40) fine (at h)
    two_within (vector p) (vector q) =
        either (eqb t.code 40) fine (either (eqb t.code 41) fine (either (ltb t.code 50) (at h) fine))

    three_within : (z x y : Expression) → Within (of_three t z x y)
    unfolding of_three
    three_within (boolean c) (boolean a) (boolean b) = fine
    three_within (boolean c) (boolean a) (vector q) = at h
    three_within (boolean c) (vector p) y = at h
    three_within (vector r) x y = at h

  pub sorted_within : (number : ℕ → ℕ) (e : Tree) → At (nodes e) → Within (sorted number e)
  unfolding sorted nodes
  sorted_within number (leaf t) a = fine
  sorted_within number (one t x) a =
      given_within (of_one t) (sorted_within number x (front (nodes x) (t ∷ []) a))
      (one_within t (first (back (nodes x) (t ∷ []) a)))
  sorted_within number (two t x y) a =
      let b = front (nodes x ++ nodes y) (t ∷ []) a in
      given_within (λ u. given (sorted number y) (of_two t u)) (sorted_within number x (front (nodes x) (nodes y) b))
      (λ u. given_within (of_two t u) (sorted_within number y (back (nodes x) (nodes y) b))
      (two_within t (first (back (nodes x ++ nodes y) (t ∷ []) a)) u))
  sorted_within number (three t z x y) a =
      let b = front ((nodes z ++ nodes x) ++ nodes y) (t ∷ []) a in
      let c = front (nodes z ++ nodes x) (nodes y) b in
      given_within (λ u. given (sorted number x) (λ v. given (sorted number y) (of_three t u v)))
      (sorted_within number z (front (nodes z) (nodes x) c))
      (λ u. given_within (λ v. given (sorted number y) (of_three t u v))
      (sorted_within number x (back (nodes z) (nodes x) c))
      (λ v. given_within (of_three t u v) (sorted_within number y (back (nodes z ++ nodes x) (nodes y) b))
      (three_within t (first (back ((nodes z ++ nodes x) ++ nodes y) (t ∷ []) a)) u v)))

  asked_within : (sort : Sort) (bytes : ℕ) → P bytes → (x : Expression) → Within (asked sort bytes x)
  unfolding asked
  asked_within the_sort.Boolean bytes h (boolean c) = fine
  asked_within the_sort.Boolean bytes h (vector p) = at h
  asked_within the_sort.Vector bytes h (boolean c) = at h
  asked_within the_sort.Vector bytes h (vector p) = fine

  pub call_within : (sort : Sort) (bytes : ℕ) (number : ℕ → ℕ) (e : Tree) → At (nodes e) → P bytes
      → Within (sorted_for sort bytes number e)
  unfolding sorted_for
  call_within sort bytes number e a h =
      given_within (asked sort bytes) (sorted_within number e a) (asked_within sort bytes h)

  fault_at : {p : ℕ} → Within (faulty p) → P p
  fault_at (at h) = h

  pub within_at : {q : Sorted} {p : ℕ} → Within q → q ≡ faulty p → P p
  within_at w e = fault_at (rw e at w)

  pub stopped_within : {s : Sorting} (q : Sorted) → Shows s (settled q []) → s.ok ≡ false → Within q → P s.place
  unfolding settled
  stopped_within (is x) (goes o d k l t) e w = never (sym e ∙ o)
  stopped_within (faulty p) (stops o) e w = fault_at w
