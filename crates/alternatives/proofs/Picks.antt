-- Alternative t of those that an operator makes: how many there are, and how t is put together.
-- Main names: count_rewritten, get_d_each, picked_left, picked_right, picked-block.
use Prim.Native.Nat.{ℕ, zero, suc, ◌+◌, ◌-◌, ◌*◌, ◌/◌, ◌%◌, ◌<◌, ◌≤◌}
use native.Mathlib.Omega.{arith}
use native.Mathlib.Nat.{suc-mul, mul_comm, mod-lt, div-lt_iff_lt-mul, div-eq_of_lt, mod-eq_of_lt}
use native.Mathlib.Nat.{add-div_left, add-mod_left}
use native.Mathlib.Numerals.{add-one}
use mathlib.Core.Path.{◌≡◌, refl, ap, sym, ◌∙◌}
use mathlib.Core.Bool.{Bool, true, false}
use mathlib.Core.List.{List, [], ◌∷◌, ◌++◌, map, append_assoc}
use lib.Seq.{get_or-append-add}
use lib.Dec.{ltb}
use lib.ListN.{get_or, length, length-append, length-map, get_or-append}
use borrow.Author.Tests.{ltb-true, ltb-false}
use Rattle.alf.specs.Expressions.{Join, followed_by_join, either_order, with_or_then, any_order, with, or_else}
use Rattle.alf.specs.Decoder.{join_at}
use Rattle.alf.specs.Alternatives.{Alternative, each, chained, overlaid, overlapped, rewritten}
use Rattle.alf.proofs.Growth.{length_each}
use Rattle.alternatives.specs.declared.picking.How.TheVariants.{Left, Right, LeftFirst, RightFirst, Together}
use Rattle.alternatives.specs.Picks.{count_of, put, Picked}
use Rattle.basics.proofs.Entries.{get_d_map, get_d_second}

-- how many alternatives an operator makes
pub count_rewritten : (j : Join) (xs ys : List Alternative)
    → length (rewritten j xs ys) ≡ count_of j (length xs) (length ys)
unfolding rewritten count_of
count_rewritten followed_by_join xs ys = length_each ◌++◌ xs ys
count_rewritten either_order xs ys =
    length-append (chained xs ys) _ ∙ simp length_each (rw (mul_comm (length ys)) refl)
count_rewritten with_or_then xs ys = length-append (overlapped xs ys) _ ∙ simp length_each
count_rewritten any_order xs ys =
    length-append (chained xs ys ++ overlapped xs ys) _
    ∙ rw (length-append (chained xs ys)) (simp length_each (rw (mul_comm (length ys)) refl))
count_rewritten with xs ys = length_each overlaid xs ys
count_rewritten or_else xs ys = length-append xs ys

-- for each left one, each right one: the one at v
pub get_d_each : (f : Alternative → Alternative → Alternative) (xs ys : List Alternative) (v : ℕ) → 0 < length ys
    → v < length xs * length ys
    → get_or (each f xs ys) v [] ≡ f (get_or xs (v / length ys) []) (get_or ys (v % length ys) [])
unfolding each
get_d_each f [] ys v p l = absurd (omega arith)
get_d_each f (x ∷ xs) ys v p l = go (get_d_each f xs ys (v - length ys) p) (ltb v (length ys)) refl
  where
    go : (v - length ys < length xs * length ys
        → get_or (each f xs ys) (v - length ys) []
        ≡ f (get_or xs ((v - length ys) / length ys) []) (get_or ys ((v - length ys) % length ys) []))
        → (q : Bool) → ltb v (length ys) ≡ q
        → get_or (map (f x) ys ++ each f xs ys) v []
        ≡ f (get_or (x ∷ xs) (v / length ys) []) (get_or ys (v % length ys) [])
    go rest true e =
        let h = ltb-true v (length ys) e in
        get_or-append (map (f x) ys) (each f xs ys) [] v (rw (length-map ys (f x)) h)
        ∙ get_d_map (f x) ys v [] [] h
        ∙ rw (div-eq_of_lt h, mod-eq_of_lt h) refl
    go rest false e =
        let h = ltb-false v (length ys) e in
        let o : length ys + (v - length ys) ≡ v = omega arith in
        let d : v / length ys ≡ suc ((v - length ys) / length ys) =
        ap (λ (k : ℕ). k / length ys) (sym o) ∙ add-div_left (v - length ys) p ∙ add-one _
        in
        let r : v % length ys ≡ (v - length ys) % length ys =
        ap (λ (k : ℕ). k % length ys) (sym o) ∙ add-mod_left (length ys) (v - length ys)
        in
        let k = suc-mul (length xs) (length ys) in
        get_d_second (map (f x) ys) (each f xs ys) v [] (rw (length-map ys (f x)) h)
        ∙ rw (length-map ys (f x), d, r) (rest (omega arith))

-- an alternative of the left operand alone, of the right one alone
module _ (n m t : ℕ) (p : 0 < n) (q : 0 < m) where
  pub picked_left : t < n → Picked or_else n m t Left t 0
  unfolding rewritten put
  picked_left l =
      record { lower = l; upper = q; is = λ xs ys e d. get_or-append xs ys [] t (rw e l) }

  pub picked_right : n ≤ t → t < count_of or_else n m → Picked or_else n m t Right 0 (t - n)
  unfolding rewritten put count_of
  picked_right l h =
      record {
        lower = p;
        upper = omega arith;
        is = λ xs ys e d. get_d_second xs ys t [] (rw e l) ∙ rw e refl;
      }

-- behind a block of n * m alternatives
second : (n m w : ℕ) (xs ys : List Alternative) → length xs ≡ n → length ys ≡ m
    → (f : Alternative → Alternative → Alternative) (zs : List Alternative)
    → get_or (each f xs ys ++ zs) (n * m + w) [] ≡ get_or zs w []
second n m w xs ys e d f zs =
    let k : length (each f xs ys) ≡ n * m = rw (length_each, e, d) refl in
    rw (← k) (get_or-append-add (each f xs ys) zs w [])

-- the blocks of n * m alternatives that an operator makes, with one of each operand: what stands in a block at v
module _ (n m v : ℕ) (p : 0 < n) (q : 0 < m) (l : v < n * m) (xs ys : List Alternative) (e : length xs ≡ n)
    (d : length ys ≡ m) where
  forth : (f : Alternative → Alternative → Alternative)
      → get_or (each f xs ys) v [] ≡ f (get_or xs (v / m) []) (get_or ys (v % m) [])
  forth f = rw (← d) (get_d_each f xs ys v (rw d q) (rw (e, d) l))

  back : get_or (chained ys xs) v [] ≡ get_or ys (v / n) [] ++ get_or xs (v % n) []
  back = rw (← e) (get_d_each ◌++◌ ys xs v (rw e p) (rw (e, d, mul_comm m n) l))

  -- in the first of two blocks
  first : (f : Alternative → Alternative → Alternative) (zs : List Alternative)
      → get_or (each f xs ys ++ zs) v [] ≡ get_or (each f xs ys) v []
  first f zs = get_or-append (each f xs ys) zs [] v (rw (length_each, e, d) l)

module _ (n m v : ℕ) (p : 0 < n) (q : 0 < m) (l : v < n * m) where
  low : v / m < n
  low = (div-lt_iff_lt-mul q).1 l

  high : v / n < m
  high = (div-lt_iff_lt-mul p).1 (rw (mul_comm m n) l)

  -- what the first block holds at v: one after the other, or both together
  pub first_chained : (k : ℕ) → k < 5 → (k ≡ 2 → ⊥) → (k ≡ 4 → ⊥)
      → Picked (join_at k) n m v LeftFirst (v / m) (v % m)
  unfolding join_at rewritten put
  first_chained zero o a b =
      record { lower = low; upper = mod-lt v q; is = λ xs ys e d. forth n m v p q l xs ys e d ◌++◌ }
  first_chained (suc zero) o a b =
      record {
        lower = low;
        upper = mod-lt v q;
        is = λ xs ys e d. first n m v p q l xs ys e d ◌++◌ _ ∙ forth n m v p q l xs ys e d ◌++◌;
      }
  first_chained (suc (suc zero)) o a b = absurd (a refl)
  first_chained (suc (suc (suc zero))) o a b =
      record {
        lower = low;
        upper = mod-lt v q;
        is = λ xs ys e d.
            rw append_assoc (first n m v p q l xs ys e d ◌++◌ _ ∙ forth n m v p q l xs ys e d ◌++◌);
      }
  first_chained (suc (suc (suc (suc zero)))) o a b = absurd (b refl)
  first_chained (suc (suc (suc (suc (suc k))))) o a b = absurd (omega arith)

  pub first_with_or_then : Picked with_or_then n m v Together (v / m) (v % m)
  unfolding rewritten put
  first_with_or_then =
      record {
        lower = low;
        upper = mod-lt v q;
        is = λ xs ys e d. first n m v p q l xs ys e d overlaid _ ∙ forth n m v p q l xs ys e d overlaid;
      }

  pub first_with : Picked with n m v Together (v / m) (v % m)
  unfolding rewritten put
  first_with = record { lower = low; upper = mod-lt v q; is = λ xs ys e d. forth n m v p q l xs ys e d overlaid }

  -- what the second block holds at v, and the third
  pub second_either : Picked either_order n m (n * m + v) RightFirst (v % n) (v / n)
  unfolding rewritten put
  second_either =
      record {
        lower = mod-lt v p;
        upper = high;
        is = λ xs ys e d. second n m v xs ys e d ◌++◌ _ ∙ back n m v p q l xs ys e d;
      }

  pub second_with_or_then : Picked with_or_then n m (n * m + v) LeftFirst (v / m) (v % m)
  unfolding rewritten put
  second_with_or_then =
      record {
        lower = low;
        upper = mod-lt v q;
        is = λ xs ys e d. second n m v xs ys e d overlaid _ ∙ forth n m v p q l xs ys e d ◌++◌;
      }

  pub second_any : Picked any_order n m (n * m + v) Together (v / m) (v % m)
  unfolding rewritten put
  second_any =
      record {
        lower = low;
        upper = mod-lt v q;
        is = λ xs ys e d.
            rw append_assoc (second n m v xs ys e d ◌++◌ _
            ∙ first n m v p q l xs ys e d overlaid _ ∙ forth n m v p q l xs ys e d overlaid);
      }

  pub third_any : Picked any_order n m (n * m + (n * m + v)) RightFirst (v % n) (v / n)
  unfolding rewritten put
  third_any =
      record {
        lower = mod-lt v p;
        upper = high;
        is = λ xs ys e d.
            rw append_assoc (second n m (n * m + v) xs ys e d ◌++◌ _
            ∙ second n m v xs ys e d overlaid _ ∙ back n m v p q l xs ys e d);
      }
