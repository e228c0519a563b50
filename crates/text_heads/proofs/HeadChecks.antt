-- The checks of a head, one after the other.
--   Naming, naming_first, names_33rd, names_bad, naming_next, names_done     its names
--   head_untimed, head_refused, head_empty, head_good                        the head
use Rattle.std.specs.Prelude.{Err, Ok}
use Prim.Native.Nat.{ℕ, suc, ◌+◌, ◌-◌, ◌<◌, ◌≤◌}
use native.Mathlib.Omega.{arith}
use mathlib.Core.Path.{◌≡◌, refl, sym, ap, ◌∙◌}
use mathlib.Core.Bool.{Bool, true, false}
use mathlib.Core.Logic.{inl, inr}
use mathlib.Core.List.{List, [], ◌∷◌, ◌++◌}
use lib.ListN.{length, get_or, take, drop}
use Rattle.basics.specs.Text.{bytes}
use Rattle.basics.specs.Words.{same}
use Rattle.basics.specs.declared.Refusal.{Refusal}
use Rattle.basics.specs.Refusing.{Outcome}
use Rattle.basics.proofs.Bools.{never}
use Rattle.alf.specs.Refusals.{Order, check, At, RefusedWith, RefusedBy, Passed, Comes}
use Rattle.alf.proofs.Orders.{Is, plainly, by_first, refused_then, passed_both}
use Rattle.trace_texts.specs.Words.{Word, Line, word}
use Rattle.trace_texts.specs.Texts.{none, name_words, NewName, name_order, names_order, head_order}
use Rattle.trace_texts.specs.Finding.{from, Finds}
use Rattle.trace_texts.proofs.WordOf.{word_of}
use Rattle.trace_texts.proofs.OnAndOn.{finds_on, has_word}
use Rattle.trace_texts.proofs.Each.{piece_refused, piece_passed}
use Rattle.text_heads.specs.Heads.{NamesIn, WordIs, HeadIn}
use Rattle.text_heads.proofs.NewNames.{name_word}

grows : (names : List Word) (n : ℕ) → names_order names (suc n) ≡ names_order names n ++ name_order names n
unfolding names_order
grows names n = refl

-- the first i names have passed
pub record Naming (text : List ℕ) (p k i s e : ℕ) : Type 0 where
  pub within : i ≤ k
  pub found : Finds text p (i + 1) s e
  pub passed : Passed (names_order (name_words (from text p).first) i)

pub naming_first : {text : List ℕ} {p k s e : ℕ} → Finds text p 1 s e → Naming text p k 0 s e
unfolding names_order Passed
naming_first g = record { within = omega arith; found = g; passed = tt }

module _ {text : List ℕ} {p k i s e : ℕ} (n : NamesIn text p k) (g : Naming text p k i s e) where
  abbrev names : List Word
  names = name_words (from text p).first

  pub names_done : k ≤ i → Comes (names_order names k) (λ m. m ≡ k) (Ok k)
  unfolding Comes
  names_done h = let q : i ≡ k = omega (arith, g.within) in (rw q at g.passed, refl)

  module _ (h : i < k) where
    pub word_here_lem : WordIs text p i s e
    word_here_lem = record { within = n.within; named = omega (arith, h, n.counted); found = g.found }

    place : (get_or names i none).at ≡ s
    place = ap (λ (w : Word). w.at) (name_word word_here_lem.named g.found)

    pub names_33rd : {o : Outcome} (made : ℕ → Type 0) → 32 ≤ i → Is o 11 s → Comes (names_order names k) made o
    unfolding Comes RefusedWith
    names_33rd made l is =
        rw is
        (plainly _ 11 s
        (piece_refused (names_order names) (name_order names) (grows names) i k 11 s h g.passed
        (inl (refl, record { given = l; there = sym place }))))

    pub names_bad : {o : Outcome} (made : ℕ → Type 0) → i < 32 → (NewName names i → ⊥) → Is o 12 s
        → Comes (names_order names k) made o
    unfolding Comes RefusedWith
    names_bad made l bad is =
        rw is
        (plainly _ 12 s
        (piece_refused (names_order names) (name_order names) (grows names) i k 12 s h g.passed
        (inr ((λ r a. omega (arith, a.given, l)), inl (refl, record { given = bad; there = sym place })))))

    pub naming_next : {s' e' : ℕ} → i < 32 → NewName names i → Finds text s 1 s' e' → Naming text p k (i + 1) s' e'
    unfolding Passed
    naming_next l new f =
        record {
          within = omega arith;
          found = finds_on g.found f;
          passed =
              piece_passed (names_order names) (name_order names) (grows names) i g.passed
              ((λ r a. omega (arith, a.given, l)), ((λ r a. a.given new), tt));
        }

-- the head
module _ {text : List ℕ} {p k end s e : ℕ} (g : HeadIn text p k end) (f : Finds text p 0 s e) {b : Bool}
    (timed : b ≡ same (take (e - s) (drop s text)) (bytes "time")) where
  abbrev head : Line
  head = (from text p).first

  first : get_or head.words 0 none ≡ word s (take (e - s) (drop s text))
  first = (word_of f (has_word f g.some)).1

  tested : b ≡ same (get_or head.words 0 none).bytes (bytes "time")
  tested = timed ∙ ap (λ (w : Word). same w.bytes (bytes "time")) (sym first)

  pub head_untimed : {o : Outcome} (made : ℕ → Type 0) → b ≡ false → Is o 11 s → Comes (head_order head) made o
  unfolding Comes RefusedWith head_order
  head_untimed made h is =
      rw is
      (plainly _ 11 s
      (inl (refl, record { given = sym tested ∙ h; there = sym (ap (λ (w : Word). w.at) first) })))

  module _ (yes : b ≡ true) where
    abbrev untimed : ℕ → Type 0
    untimed = At (get_or head.words 0 none).at (same (get_or head.words 0 none).bytes (bytes "time") ≡ false)

    pass : (q : ℕ) → untimed q → ⊥
    pass q a = never (sym a.given ∙ sym tested ∙ yes)

    abbrev behind : Order
    behind =
        names_order (name_words head) (length (name_words head))
        ++ (check 14 (At head.end (length (name_words head) ≡ 0)) ∷ [])

    then : {r : Refusal} → RefusedBy behind r → RefusedBy (head_order head) r
    unfolding head_order RefusedWith
    then h = record { by = inr (pass, h.by); bare = h.bare }

    counted : k ≡ length (name_words head)
    counted = g.names.counted

    pub head_refused : (made : ℕ → Type 0) (r : Refusal)
        → Comes (names_order (name_words head) k) (λ m. m ≡ k) (Err r) → Comes (head_order head) made (Err r)
    unfolding Comes
    head_refused made r rest = then (by_first _ _ (rw counted at rest))

    module _ (rest : Passed (names_order (name_words head) k)) where
      passed : Passed (names_order (name_words head) (length (name_words head)))
      passed = rw counted at rest

      pub head_empty : {o : Outcome} (made : ℕ → Type 0) → k ≡ 0 → Is o 14 end → Comes (head_order head) made o
      unfolding Comes RefusedWith
      head_empty made z is =
          rw is
          (then (plainly _ 14 end
          (refused_then _ _ 14 end passed
          (inl (refl, record { given = sym counted ∙ z; there = g.ends })))))

      pub head_good : (k ≡ 0 → ⊥) → Comes (head_order head) (λ n. n ≡ k) (Ok k)
      unfolding Comes Passed head_order
      head_good n =
          let last : Passed (check 14 (At head.end (length (name_words head) ≡ 0)) ∷ []) =
          ((λ q a. n (counted ∙ a.given)), tt) in
          ((pass, passed_both (names_order (name_words head) (length (name_words head))) _ passed last), refl)
