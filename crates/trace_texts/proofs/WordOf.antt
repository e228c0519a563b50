-- What is found is a word of the line, or the line's end.
--   drop_first  the first of what is left of a list is the entry there
--   word_of     where bytes are found, they are word n of the line, which starts there
--   no_word     where none are found, the line has no word n, and the place is its end
use Prim.Native.Nat.{ℕ, zero, suc, ◌-◌, ◌<◌, ◌≤◌}
use native.Mathlib.Omega.{arith}
use mathlib.Core.Path.{◌≡◌, refl, sym, ap, ◌∙◌}
use mathlib.Core.Bool.{Bool, true, false}
use mathlib.Core.Logic.{◌⊎◌, inl, inr}
use mathlib.Core.List.{List, [], ◌∷◌}
use lib.Dec.{eqb}
use lib.ListN.{length, get_or, take, drop, length-drop, drop_of_length-le}
use Rattle.basics.proofs.Bools.{never, below?}
use Rattle.trace_texts.specs.Words.{Word, Lines, word, lines_from}
use Rattle.trace_texts.specs.Texts.{none}
use Rattle.trace_texts.specs.Finding.{is_solid_lem, from, Finds}
use Rattle.trace_texts.proofs.Found.{run_words, no_run}
use Rattle.trace_texts.proofs.Behind.{ended_step}

pub drop_first : {A : Type 0} (d : A) (ws : List A) (n : ℕ) {w : A} {rest : List A} → w ∷ rest ≡ drop n ws
    → (n < length ws) × (get_or ws n d ≡ w)
drop_first d [] zero e = let z : ◌≡◌ {A = ℕ} 0 1 = cc in absurd (omega arith)
drop_first d [] (suc n) e = let z : ◌≡◌ {A = ℕ} 0 1 = cc in absurd (omega arith)
drop_first d (v ∷ ws) zero e = (omega arith, cc)
drop_first d (v ∷ ws) (suc n) e = let i = drop_first d ws n e in (omega (arith, i.0), i.1)

drop_none : (ws : List Word) (n : ℕ) → [] ≡ drop n ws → length ws ≤ n
drop_none ws n e = omega (arith, length-drop n ws, ap length e)

module _ {text : List ℕ} {p n s e : ℕ} (g : Finds text p n s e) where
  pub word_of : s < e → (n < length (from text p).first.words)
      × (get_or (from text p).first.words n none ≡ word s (take (e - s) (drop s text)))
  word_of h =
      drop_first none (from text p).first.words n
      (sym (ap (λ (x : Lines). x.first.words) (run_words text g.run h)) ∙ g.left)

  end_here : s < length text → (eqb (get_or text s 0) 10 ≡ true) → (from text s).first.end ≡ s
  end_here l t = ap (λ (x : Lines). x.first.end) (ended_step text l t)

  past_end : length text ≤ s → (from text s).first.end ≡ s
  unfolding from lines_from
  past_end l = rw (drop_of_length-le text {i = s} l) refl

  no_solid : s < length text → e ≤ s → eqb (get_or text s 0) 10 ≡ true
  unfolding is_solid_lem
  no_solid l h = go (eqb (get_or text s 0) 10) refl
    where
      same : e ≡ s
      same = omega (arith, g.run.low)

      go : (x : Bool) → eqb (get_or text s 0) 10 ≡ x → eqb (get_or text s 0) 10 ≡ true
      go true f = f
      go false f =
          let solid : is_solid_lem (get_or text s 0) ≡ true = rw (f, g.at_word l) refl in
          let none : is_solid_lem (get_or text s 0) ≡ false = rw same at (g.run.behind (omega (arith, same))) in
          never (sym none ∙ solid)

  pub no_word : e ≤ s → (length (from text p).first.words ≤ n) × (s ≡ (from text p).first.end)
  no_word h =
      let same : e ≡ s = omega (arith, g.run.low) in (
        drop_none _ n (sym (no_run text g.run same g.at_word) ∙ g.left),
        sym (ended (below? s (length text))) ∙ g.same_end,
      )
    where
      ended : (s < length text) ⊎ (length text ≤ s) → (from text s).first.end ≡ s
      ended (inl l) = end_here l (no_solid l h)
      ended (inr l) = past_end l
