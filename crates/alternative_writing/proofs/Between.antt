-- Parts with a gap between two of them, one after the other.
--   rest                     what is left of them from part i on, with the gaps before
--   parts_start, parts_next, parts_end      a text of such parts, part by part
use Prim.Native.Nat.{ℕ, zero, suc, ◌+◌}
use native.Mathlib.Numerals.{add-one}
use mathlib.Core.Path.{◌≡◌, refl, sym, ap, ◌∙◌}
use mathlib.Core.List.{List, [], ◌∷◌, ◌++◌, map, append_assoc, append-nil}
use Rattle.basics.specs.Memory.{Put}
use Rattle.alternative_texts.specs.Texts.{behind, between}
use Rattle.alternative_texts.specs.Inner.{lead}
use Rattle.alternative_texts.proofs.Clipped.{Laying, laying_start, laying_on, laying_end, laying_parts}

unfoldable pub rest : List ℕ → ℕ → List (List ℕ) → List ℕ
rest gap zero ws = between gap ws
rest gap (suc i) ws = behind gap ws

rest_next : (gap : List ℕ) (i : ℕ) (w : List ℕ) (ws : List (List ℕ))
    → rest gap i (w ∷ ws) ≡ (lead gap i ++ w) ++ rest gap (i + 1) ws
unfolding rest lead between behind
rest_next gap zero w ws = refl
rest_next gap (suc i) w ws = rw (add-one (suc i)) (sym (append_assoc gap w (behind gap ws)))

rest_none : (gap : List ℕ) (i : ℕ) → rest gap i [] ≡ []
unfolding rest between behind
rest_none gap zero = refl
rest_none gap (suc i) = refl

module _ {A : Type 0} (f : A → List ℕ) (gap : List ℕ) {out : List ℕ} {at : ℕ} where
  pub parts_start : (xs : List A) → Laying out at (between gap (map f xs)) (rest gap 0 (map f xs) ∷ []) out at
  unfolding rest
  parts_start xs = laying_start _ (sym (append-nil _))

  module _ {whole : List ℕ} (i : ℕ) {xs : List A} {out' : List ℕ} {p : ℕ}
      (g : Laying out at whole (rest gap i (map f xs) ∷ []) out' p) where
    pub parts_next : {x : A} {xs' : List A} {out'' : List ℕ} {q : ℕ} → xs ≡ x ∷ xs'
        → Put out' p (lead gap i ++ f x) out'' q
        → Laying out at whole (rest gap (i + 1) (map f xs') ∷ []) out'' q
    parts_next {x} {xs'} e u =
        laying_on
        (laying_parts
        (append-nil _ ∙ ap (λ (l : List A). rest gap i (map f l)) e ∙ rest_next gap i (f x) (map f xs')
        ∙ ap (λ (l : List ℕ). (lead gap i ++ f x) ++ l) (sym (append-nil _))) g)
        u

    pub parts_end : xs ≡ [] → Put out at whole out' p
    parts_end e =
        laying_end (laying_parts (append-nil _ ∙ ap (λ (l : List A). rest gap i (map f l)) e ∙ rest_none gap i) g)
