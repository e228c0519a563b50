-- The step at a `'` is right: a based literal, an edge of two, or the bad half. Main name: right_based.
use mathlib.Core.Path.{◌≡◌, refl, sym, ap, ◌∙◌}
use mathlib.Core.Bool.{Bool, true, false, not}
use mathlib.Core.Logic.{◌⊎◌, inl, inr}
use mathlib.Core.List.{List, [], ◌∷◌}
use Prim.Native.Nat.{ℕ, ◌+◌, ◌≤◌, ◌<◌}
use native.Mathlib.Omega.{arith}
use lib.Dec.{eqb}
use Rattle.std.specs.Prelude.{None, Some}
use lib.ListN.{length, take, drop, take-append-drop}
use lib.Seq.{take-add, get_or-drop}
use borrow.Author.Tests.{eqb-true, eqb-false, eq-eqb, ltb-true, not-true}
use Rattle.alf.specs.Names.{goes_on_name}
use Rattle.alf.specs.States.{among}
use Rattle.basics.proofs.Bools.{and_left, and_right}
use Rattle.token_steps.specs.Classes.{half_of}
use Rattle.token_steps.specs.Spelling.{edge_code}
use Rattle.token_steps.specs.Spelling.IsToken.{literal, based_edge}
use Rattle.token_steps.specs.Taking.{byte_at, is_based, is_half, Taken, Tokenless, NoToken}
use Rattle.token_steps.specs.Taking.Barred.{loose, lone, bad_half}
use Rattle.token_steps.specs.Taking.NoToken.{barred, tokenless}
use Rattle.token_steps.specs.Steps.{half_at, based_step}
use Rattle.token_steps.proofs.Bytes.{contrary, plain_unquoted, quote_unnamed, half_zero, and_both, question}
use Rattle.token_steps.proofs.Ways.{no_half, bad_second, both_halves, lone as alone, based_literal}
use Rattle.token_steps.proofs.TokenStarts.{Shape, as_name, as_based, as_edge, as_spelled, shape, entry_good}
use Rattle.token_steps.proofs.Right.{Right, right_taken, barred_quote}

half_at_true : (bs : List ℕ) (k : ℕ) → is_half bs k ≡ true → half_at bs k ≡ Some (half_of (byte_at bs (k + 2)))
unfolding half_at
half_at_true bs k h = rw h

half_at_false : (bs : List ℕ) (k : ℕ) → is_half bs k ≡ false → half_at bs k ≡ None
unfolding half_at
half_at_false bs k h = rw h

half_based : (bs : List ℕ) (k : ℕ) → is_half bs k ≡ true → is_based bs k ≡ true
half_based bs k h = and_left (is_based bs k) _ h

half_free : (bs : List ℕ) (k : ℕ) → is_half bs k ≡ true → goes_on_name (byte_at bs (k + 3)) ≡ false
half_free bs k h = not-true _ (and_right (is_based bs k) _ h)

based_less : (bs : List ℕ) (k : ℕ) → is_based bs k ≡ true → half_of (byte_at bs (k + 2)) < 9
based_less bs k h =
    ltb-true _ 9 (and_right (eqb (byte_at bs (k + 1)) 98) _ (and_right (eqb (byte_at bs k) 39) _ h))

-- `'b` and a byte are there
based_list : (bs : List ℕ) → is_based bs 0 ≡ true → take 3 bs ≡ 39 ∷ (98 ∷ (byte_at bs 2 ∷ []))
unfolding half_of among
based_list [] h = absurd (contrary h refl)
based_list (a ∷ []) h = absurd (contrary (and_right (eqb a 39) _ h) refl)
based_list (a ∷ (b ∷ [])) h = absurd (contrary (and_right (eqb b 98) _ (and_right (eqb a 39) _ h)) refl)
based_list (a ∷ (b ∷ (x ∷ bs))) h =
    rw (eqb-true a 39 (and_left (eqb a 39) _ h), eqb-true b 98 (and_left (eqb b 98) _ (and_right (eqb a 39) _ h)))

pair_list :
    (bs : List ℕ) →
    is_based bs 0 ≡ true →
    is_based bs 3 ≡ true →
    take 6 bs ≡ 39 ∷ (98 ∷ (byte_at bs 2 ∷ (39 ∷ (98 ∷ (byte_at bs 5 ∷ [])))))
pair_list bs h k =
    rw (take-add 3 3 bs, based_list bs h, based_list (drop 3 bs) (dropped bs k), get_or-drop 3 bs 2 0)
  where
    dropped : (cs : List ℕ) → is_based cs 3 ≡ true → is_based (drop 3 cs) 0 ≡ true
    dropped cs h = rw (get_or-drop 3 cs 0 0, get_or-drop 3 cs 1 0, get_or-drop 3 cs 2 0) h

quote_tokenless : (bs : List ℕ) → byte_at bs 0 ≡ 39 → is_based bs 0 ≡ false → Tokenless bs
quote_tokenless bs q h v d rest t e = go (shape rest t e)
  where
    go : Shape bs v → ⊥
    go (as_name a b) = contrary a (quote_unnamed (byte_at bs 0) q)
    go (as_based a b c) = contrary b h
    go (as_edge a b c) = contrary (eq-eqb (byte_at bs 0) 39 q) (plain_unquoted (byte_at bs 0) a)
    go (as_spelled x m f g s) = contrary (eq-eqb (byte_at bs 0) 39 q) (rw (g, f) (entry_good m).unquoted)

quote_short : {bs v : List ℕ} → byte_at bs 0 ≡ 39 → Shape bs v
    → (length v ≤ 3) ⊎ ((length v ≡ 6) × (byte_at bs 3 ≡ 39))
quote_short {bs} q (as_name a b) = absurd (contrary a (quote_unnamed (byte_at bs 0) q))
quote_short q (as_based a b (inl c)) = inl (omega arith)
quote_short q (as_based a b (inr c)) = inr c
quote_short q (as_edge a b c) = inl (omega arith)
quote_short q (as_spelled e m f g s) = inl (rw f (entry_good m).short)

no_half_there : (bs : List ℕ) → byte_at bs 0 ≡ 39 → is_half bs 0 ≡ false → NoToken bs 0
no_half_there bs q h = go (is_based bs 0) (goes_on_name (byte_at bs 3)) refl refl
  where
    go : (x y : Bool) → is_based bs 0 ≡ x → goes_on_name (byte_at bs 3) ≡ y → NoToken bs 0
    go true true e f = barred (loose e f)
    go true false e f = absurd (contrary (and_both (is_based bs 0) (not (goes_on_name (byte_at bs 3))) e (ap not f)) h)
    go false y e f =
        tokenless (quote_tokenless bs q e)
        (barred_quote q (λ a _. contrary a e) (λ a _ _. contrary a e) (λ a _ _. contrary (half_based bs 0 a) e))

module _ (bs : List ℕ) (q : byte_at bs 0 ≡ 39) (h : is_half bs 0 ≡ true) where
  pair_taken :
      byte_at bs 3 ≡ 39 →
      is_half bs 3 ≡ true →
      Taken bs (take 6 bs) (edge_code (half_of (byte_at bs 2)) (half_of (byte_at bs 5))) (drop 6 bs)
  pair_taken p k =
      record {
        token = rw (pair_list bs a b)
            (based_edge (byte_at bs 2) (byte_at bs 5) (based_less bs 0 a) (based_less bs 3 b));
        there = sym (take-append-drop 6 bs);
        longest = λ v d rest t e. rw (pair_list bs a b) (six (quote_short q (shape rest t e)));
        allowed =
            barred_quote q (λ _ z. contrary z (half_free bs 0 h)) (λ _ _ z. z p) (λ _ _ z. contrary k z);
      }
    where
      a : is_based bs 0 ≡ true
      a = half_based bs 0 h

      b : is_based bs 3 ≡ true
      b = half_based bs 3 k

      six : {n : ℕ} → (n ≤ 3) ⊎ ((n ≡ 6) × (byte_at bs 3 ≡ 39)) → n ≤ 6
      six (inl z) = omega arith
      six (inr z) = omega arith

  literal_taken :
      (byte_at bs 3 ≡ 39 → ⊥) →
      (half_of (byte_at bs 2) ≡ 0 → ⊥) →
      Taken bs (take 3 bs) (31 + half_of (byte_at bs 2)) (drop 3 bs)
  literal_taken p z =
      record {
        token = rw (based_list bs a) (literal (byte_at bs 2) positive (based_less bs 0 a));
        there = sym (take-append-drop 3 bs);
        longest = λ v d rest t e. rw (based_list bs a) (three (quote_short q (shape rest t e)));
        allowed =
            barred_quote q (λ _ w. contrary w (half_free bs 0 h)) (λ _ w _. any w) (λ _ w _. p w);
      }
    where
      a : is_based bs 0 ≡ true
      a = half_based bs 0 h

      positive : 0 < half_of (byte_at bs 2)
      positive = omega arith

      any : byte_at bs 2 ≡ 63 → ⊥
      any w = z (ap half_of w ∙ question)

      three : {n : ℕ} → (n ≤ 3) ⊎ ((n ≡ 6) × (byte_at bs 3 ≡ 39)) → n ≤ 3
      three (inl w) = w
      three (inr w) = absurd (p w.1)

pub right_based : (bs : List ℕ) → byte_at bs 0 ≡ 39 → Right bs (based_step bs)
right_based bs q = go (is_half bs 0) refl
  where
    second : is_half bs 0 ≡ true → byte_at bs 3 ≡ 39 → (y : Bool) → is_half bs 3 ≡ y
        → Right bs (based_step bs)
    second h p true k =
        rw (← both_halves bs (half_at_true bs 0 h) refl p (half_at_true bs 3 k))
        (right_taken (ap length (pair_list bs (half_based bs 0 h) (half_based bs 3 k)))
        (pair_taken bs q h p k))
    second h p false k =
        rw (← bad_second bs (half_at_true bs 0 h) refl p (half_at_false bs 3 k))
        ((barred (bad_half h p k)))

    single :
        is_half bs 0 ≡ true →
        (byte_at bs 3 ≡ 39 → ⊥) →
        (y : Bool) →
        eqb (half_of (byte_at bs 2)) 0 ≡ y →
        Right bs (based_step bs)
    single h p true k =
        let z = eqb-true _ 0 k in
        rw (← alone bs (half_at_true bs 0 h) refl p z)
        (barred (lone (half_based bs 0 h) (half_zero _ z) p))
    single h p false k =
        rw (← based_literal bs (half_at_true bs 0 h) refl p (eqb-false _ 0 k))
        (right_taken (ap length (based_list bs (half_based bs 0 h)))
        (literal_taken bs q h p (eqb-false _ 0 k)))

    first : is_half bs 0 ≡ true → (y : Bool) → eqb (byte_at bs 3) 39 ≡ y → Right bs (based_step bs)
    first h true k = second h (eqb-true _ 39 k) (is_half bs 3) refl
    first h false k = single h (eqb-false _ 39 k) (eqb (half_of (byte_at bs 2)) 0) refl

    go : (y : Bool) → is_half bs 0 ≡ y → Right bs (based_step bs)
    go true h = first h (eqb (byte_at bs 3) 39) refl
    go false h = rw (← no_half bs (half_at_false bs 0 h)) (no_half_there bs q h)
