-- The states of a line, one after the other.
--   states_none, states_missing, states_bad, states_next, states_done     no state yet; a word is missing, is no
--                                                                         state, is one; all are
--   code_long, code_one                                                   the code of a word
use Rattle.std.specs.Prelude.{Ok}
use Prim.Native.Nat.{ℕ, suc, ◌+◌, ◌-◌, ◌<◌, ◌≤◌}
use native.Mathlib.Omega.{arith}
use mathlib.Core.Path.{◌≡◌, refl, sym, ap, ◌∙◌}
use mathlib.Core.List.{List, [], ◌∷◌, ◌++◌}
use mathlib.Core.Logic.{inl, inr}
use lib.ListN.{length, get_or, take, drop, length-drop}
use lib.Seq.{drop-cons, length-take-le}
use Rattle.basics.specs.Refusing.{Outcome}
use Rattle.alf.specs.Refusals.{Order, check, At, RefusedWith, Passed, Comes}
use Rattle.alf.proofs.Orders.{Is, plainly}
use Rattle.trace_texts.specs.Words.{Word, Line}
use Rattle.trace_texts.specs.Texts.{code_of, state_word, states_order}
use Rattle.trace_texts.specs.Finding.{from, Finds}
use Rattle.trace_texts.proofs.WordOf.{word_of, no_word}
use Rattle.state_letters.specs.Letters.{state_of}
use Rattle.text_checks.specs.Inner.{SpanIn}
use Rattle.trace_texts.proofs.Each.{piece_refused, piece_passed}

abbrev state_order : Line → ℕ → Order
state_order row i =
    check 14 (At row.end (length row.words ≤ i + 1))
    ∷ check 15 (At (state_word row i).at (7 < code_of (state_word row i).bytes)) ∷ []

grows : (row : Line) (n : ℕ) → states_order row (suc n) ≡ states_order row n ++ state_order row n
unfolding states_order
grows row n = refl

module _ {text : List ℕ} {p k i s e : ℕ} (h : i < k) (q : Passed (states_order (from text p).first i))
    (g : Finds text p (i + 1) s e) where
  pub states_missing : {o : Outcome} (made : ℕ → Type 0) → e ≤ s → Is o 14 s
      → Comes (states_order (from text p).first k) made o
  unfolding Comes RefusedWith
  states_missing made l is =
      let w = no_word g l in
      rw is
      (plainly _ 14 s
      (piece_refused (states_order (from text p).first) (state_order (from text p).first) (grows (from text p).first)
      i k 14 s h q (inl (refl, record { given = w.0; there = w.1 }))))

  module _ (l : s < e) where
    found : (i + 1 < length (from text p).first.words)
        × (state_word (from text p).first i ≡ record { at = s; bytes = take (e - s) (drop s text) })
    found = word_of g l

    there : (r : ℕ) → At (from text p).first.end (length (from text p).first.words ≤ i + 1) r → ⊥
    there r a = omega (arith, a.given, found.0)

    pub states_bad : {o : Outcome} {c : ℕ} (made : ℕ → Type 0) → c ≡ code_of (take (e - s) (drop s text)) → 7 < c
        → Is o 15 s → Comes (states_order (from text p).first k) made o
    unfolding Comes RefusedWith
    states_bad made c m is =
        let b : code_of (state_word (from text p).first i).bytes ≡ code_of (take (e - s) (drop s text)) =
        ap (λ (w : Word). code_of w.bytes) found.1 in
        rw is
        (plainly _ 15 s
        (piece_refused (states_order (from text p).first) (state_order (from text p).first)
        (grows (from text p).first) i k 15 s h q
        (inr (
          there,
          inl (
            refl,
            record {
              given = omega (arith, b, c, m);
              there = sym (ap (λ (w : Word). w.at) found.1);
            },
          ),
        ))))

    pub states_next : {c : ℕ} → c ≡ code_of (take (e - s) (drop s text)) → c ≤ 7
        → Passed (states_order (from text p).first (i + 1))
    unfolding Passed
    states_next c m =
        let b : code_of (state_word (from text p).first i).bytes ≡ code_of (take (e - s) (drop s text)) =
        ap (λ (w : Word). code_of w.bytes) found.1 in
        piece_passed (states_order (from text p).first) (state_order (from text p).first)
        (grows (from text p).first) i q
        (there, ((λ r a. omega (arith, a.given, b, c, m)), tt))

pub states_none : (row : Line) → Passed (states_order row 0)
unfolding states_order Passed
states_none row = tt

pub states_done : (row : Line) {i k : ℕ} → i ≡ k → Passed (states_order row i)
    → Comes (states_order row k) (λ m. m ≡ k) (Ok k)
unfolding Comes
states_done row e p = (rw e at p, refl)

-- the code of a word
long_word : (l : List ℕ) → (length l ≡ 1 → ⊥) → 8 ≡ code_of l
unfolding code_of
long_word [] n = refl
long_word (b ∷ []) n = absurd (n refl)
long_word (b ∷ c ∷ l) n = refl

pub code_long : {text : List ℕ} {s e : ℕ} → SpanIn text s e → (e - s ≡ 1 → ⊥)
    → 8 ≡ code_of (take (e - s) (drop s text))
code_long {text} {s} {e} g n =
    let l : length (take (e - s) (drop s text)) ≡ e - s =
    length-take-le (e - s) (drop s text) (omega (arith, length-drop s text, g.ordered, g.within)) in
    long_word (take (e - s) (drop s text)) (λ f. n (sym l ∙ f))

pub code_one : {text : List ℕ} {s e c : ℕ} → SpanIn text s e → e - s ≡ 1 → c ≡ state_of (get_or text s 0)
    → c ≡ code_of (take (e - s) (drop s text))
unfolding code_of
code_one {text} {s} g e f =
    let h : s < length text = omega (arith, g.within) in
    rw (e, drop-cons text s 0 h) f
