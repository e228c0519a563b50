-- The names of a head, looked at one after the other.
--   name_word                                  name i is word i + 1 of the line
--   not_named, Newing, newing_first, repeated, newing_next, new_all     whether it is a name, and no earlier one
use Prim.Native.Nat.{ℕ, zero, suc, ◌+◌, ◌-◌, ◌<◌, ◌≤◌}
use native.Mathlib.Omega.{arith}
use mathlib.Core.Path.{◌≡◌, refl, sym, ap, ◌∙◌}
use mathlib.Core.Bool.{Bool, true, false, ◌&&◌, not}
use mathlib.Core.Logic.{◌⊎◌, inl, inr}
use mathlib.Core.List.{List, [], ◌∷◌}
use lib.ListN.{length, get_or, take, drop, length-drop}
use lib.Seq.{get_or-drop}
use Rattle.basics.specs.Deciding.{Decides}
use Rattle.basics.proofs.Bools.{never, below?}
use Rattle.basics.proofs.Deciding.{holds, fails}
use Rattle.alf.specs.Names.{is_name}
use Rattle.trace_texts.specs.Words.{Word, word}
use Rattle.trace_texts.specs.Texts.{is_changed, tells, named, none, name_words, NewName}
use Rattle.trace_texts.specs.Finding.{from, Finds}
use Rattle.trace_texts.proofs.WordOf.{word_of}
use Rattle.trace_texts.proofs.OnAndOn.{finds_on, has_word}
use Rattle.text_heads.specs.Heads.{WordIs}

-- the names are the first words behind `time`
named_few : (ws : List Word) → length (named ws) ≤ length ws
unfolding named
named_few [] = omega arith
named_few (w ∷ ws) = go (is_changed w.bytes && not (tells ws)) refl (named_few ws)
  where
    go : (x : Bool) → (is_changed w.bytes && not (tells ws)) ≡ x → length (named ws) ≤ length ws
        → length (named (w ∷ ws)) ≤ suc (length ws)
    go true e ih = rw e (omega arith)
    go false e ih = rw e (omega arith)

named_at : (ws : List Word) (i : ℕ) → i < length (named ws) → get_or (named ws) i none ≡ get_or ws i none
unfolding named
named_at [] i h = refl
named_at (w ∷ ws) i h = go (is_changed w.bytes && not (tells ws)) refl i h (named_at ws)
  where
    go : (x : Bool) → (is_changed w.bytes && not (tells ws)) ≡ x → (i : ℕ) → i < length (named (w ∷ ws))
        → ((j : ℕ) → j < length (named ws) → get_or (named ws) j none ≡ get_or ws j none)
        → get_or (named (w ∷ ws)) i none ≡ get_or (w ∷ ws) i none
    go true e i h ih = let l : i < 0 = rw e at h in absurd (omega arith)
    go false e zero h ih = rw e refl
    go false e (suc i) h ih = let l : suc i < suc (length (named ws)) = rw e at h in rw e (ih i (omega arith))

pub name_word : {text : List ℕ} {p i s e : ℕ} → i < length (name_words (from text p).first)
    → Finds text p (i + 1) s e
    → get_or (name_words (from text p).first) i none ≡ word s (take (e - s) (drop s text))
name_word {text} {p} {i} h g =
    let ws = (from text p).first.words in
    let few : i + 1 < length ws = omega (arith, h, named_few (drop 1 ws), length-drop 1 ws) in
    let turn : 1 + i ≡ i + 1 = omega arith in
    named_at (drop 1 ws) i h ∙ get_or-drop 1 ws i none ∙ ap (λ (m : ℕ). get_or ws m none) turn
    ∙ (word_of g (has_word g few)).1

module _ {text : List ℕ} {p i s e : ℕ} (w : WordIs text p i s e) where
  abbrev names : List Word
  names = name_words (from text p).first

  here : (get_or names i none).bytes ≡ take (e - s) (drop s text)
  here = ap (λ (v : Word). v.bytes) (name_word w.named w.found)

  pub not_named : {b : Bool} → b ≡ is_name (take (e - s) (drop s text)) → b ≡ false → Decides false (NewName names i)
  not_named t f = fails (λ n. never (sym (sym t ∙ f) ∙ sym (ap is_name here) ∙ n.name))

  -- none of the first j names is this one
  pub record Newing (j from to : ℕ) : Type 0 where
    pub within : j ≤ i
    pub found : Finds text p (j + 1) from to
    pub other : (m : ℕ) → m < j → (get_or names m none).bytes ≡ (get_or names i none).bytes → ⊥

  pub newing_first : {f t : ℕ} → Finds text p 1 f t → Newing 0 f t
  newing_first g = record { within = omega arith; found = g; other = λ m h. absurd (omega arith) }

  module _ {j f t : ℕ} (g : Newing j f t) where
    there : j < i → (get_or names j none).bytes ≡ take (t - f) (drop f text)
    there h = ap (λ (v : Word). v.bytes) (name_word (omega (arith, h, w.named)) g.found)

    pub repeated : {b : Bool} → j < i → (b ≡ true → take (t - f) (drop f text) ≡ take (e - s) (drop s text)) → b ≡ true
        → Decides false (NewName names i)
    repeated h y x = fails (λ n. n.new j h (there h ∙ y x ∙ sym here))

    pub newing_next : {b : Bool} {f' t' : ℕ} → j < i
        → (take (t - f) (drop f text) ≡ take (e - s) (drop s text) → b ≡ true) → b ≡ false → Finds text f 1 f' t'
        → Newing (j + 1) f' t'
    newing_next h y x l =
        record { within = omega arith; found = finds_on g.found l; other = λ m k. go m k (below? m j) }
      where
        go : (m : ℕ) → m < j + 1 → (m < j) ⊎ (j ≤ m) → (get_or names m none).bytes ≡ (get_or names i none).bytes → ⊥
        go m k (inl a) = g.other m a
        go m k (inr a) =
            let q : m ≡ j = omega arith in
            λ r. never (sym x ∙ y (sym (there h) ∙ ap (λ (v : ℕ). (get_or names v none).bytes) (sym q) ∙ r ∙ here))

    pub new_all : {b : Bool} → i ≤ j → b ≡ is_name (take (e - s) (drop s text)) → b ≡ true
        → Decides true (NewName names i)
    new_all h y x =
        let q : j ≡ i = omega (arith, g.within) in
        holds (record { name = ap is_name here ∙ sym y ∙ x; new = λ m k. g.other m (omega arith) })
