-- The step at any other byte is right: two of `0 1 ?`, or one of the spellings. Main name: right_plain.
use Rattle.std.specs.Prelude.{Err, if◌then◌else◌}
use mathlib.Core.Path.{◌≡◌, refl, sym, ap}
use mathlib.Core.Bool.{Bool, true, false, ◌&&◌}
use mathlib.Core.List.{List, [], ◌∷◌}
use Prim.Native.Nat.{ℕ, ◌≤◌}
use native.Mathlib.Omega.{arith}
use lib.Dec.{eqb}
use lib.ListN.{length, take, drop, take-append-drop}
use lib.Seq.{take-append_seam}
use borrow.Author.Tests.{eq-eqb, ltb-true}
use Rattle.alf.specs.Names.{starts_name}
use Rattle.alf.specs.States.{among}
use Rattle.basics.proofs.Bools.{and_left, and_right}
use Rattle.token_steps.specs.Classes.{half_of}
use Rattle.token_steps.specs.Spelling.{Spelling, ◌In◌, spellings, edge_code}
use Rattle.token_steps.specs.Spelling.IsToken.{spelled, edge}
use Rattle.token_steps.specs.Taking.{byte_at, is_plain, Barred, Taken, Tokenless}
use Rattle.token_steps.specs.Taking.Barred.{together}
use Rattle.token_steps.specs.Taking.NoToken.{barred, tokenless}
use Rattle.token_steps.specs.Steps.{Outcome, starts, step, first_of, plain_step}
use Rattle.token_steps.proofs.Bytes.{contrary, and_both}
use Rattle.token_steps.proofs.Search.{Found, hit, miss, found, falling, found_longest}
use Rattle.token_steps.proofs.Search.{starts_sound}
use Rattle.token_steps.proofs.TokenStarts.{Shape, as_name, as_based, as_edge, as_spelled, shape, entry_good}
use Rattle.token_steps.proofs.Right.{Right, right_taken, barred_other}

plain_list :
    (bs : List ℕ) →
    is_plain (byte_at bs 0) ≡ true →
    is_plain (byte_at bs 1) ≡ true →
    take 2 bs ≡ byte_at bs 0 ∷ (byte_at bs 1 ∷ [])
unfolding half_of among
plain_list [] h k = absurd (contrary h refl)
plain_list (a ∷ []) h k = absurd (contrary k refl)
plain_list (a ∷ (b ∷ bs)) h k = refl

spelled_falling : falling 3 spellings ≡ true
unfolding spellings
spelled_falling = refl

-- the tokens that are left where bs begin with no name and no `'`
data Other (bs v : List ℕ) : Type 0 where
  two_plain : is_plain (byte_at bs 0) ≡ true → is_plain (byte_at bs 1) ≡ true → length v ≡ 2 → Other bs v
  listed : (e : Spelling) → e In spellings → v ≡ e.bytes → byte_at bs 0 ≡ byte_at v 0 → starts v bs ≡ true
      → Other bs v

module _ (bs : List ℕ) (u : starts_name (byte_at bs 0) ≡ false) (q : eqb (byte_at bs 0) 39 ≡ false) where
  other_shape : {v : List ℕ} → Shape bs v → Other bs v
  other_shape (as_name a b) = absurd (contrary a u)
  other_shape (as_based a b c) = absurd (contrary (eq-eqb (byte_at bs 0) 39 a) q)
  other_shape (as_edge a b c) = two_plain a b c
  other_shape (as_spelled e m f g s) = listed e m f g s

  free :
      (is_plain (byte_at bs 0) ≡ true → is_plain (byte_at bs 1) ≡ true → is_plain (byte_at bs 2) ≡ true → ⊥) →
      (k : ℕ) →
      Barred bs k →
      ⊥
  free f = barred_other q f (λ a _. contrary a u)

  edge_taken :
      is_plain (byte_at bs 0) ≡ true →
      is_plain (byte_at bs 1) ≡ true →
      is_plain (byte_at bs 2) ≡ false →
      Taken bs (take 2 bs) (edge_code (half_of (byte_at bs 0)) (half_of (byte_at bs 1))) (drop 2 bs)
  edge_taken a b c =
      record {
        token = rw (plain_list bs a b) (edge (byte_at bs 0) (byte_at bs 1) (ltb-true _ 3 a) (ltb-true _ 3 b));
        there = sym (take-append-drop 2 bs);
        longest = λ v d rest t e. rw (plain_list bs a b) (two v (other_shape (shape rest t e)));
        allowed = free (λ _ _ z. contrary z c);
      }
    where
      two : (v : List ℕ) → Other bs v → length v ≤ 2
      two v (two_plain x y z) = omega arith
      two v (listed e m f g s) = rw f ((entry_good m).pair (rw (← f, ← g) a))

  module _ (no : is_plain (byte_at bs 0) && is_plain (byte_at bs 1) ≡ false) where
    never : is_plain (byte_at bs 0) ≡ true → is_plain (byte_at bs 1) ≡ true → ⊥
    never a b = contrary (and_both _ _ a b) no

    spelled_right : {s : Outcome} → first_of spellings bs ≡ s → Found spellings bs s → Right bs s
    spelled_right eq (hit e m s) =
        right_taken (ap length prefix)
        (record {
          token = rw prefix (spelled m);
          there = sym (take-append-drop (length e.bytes) bs);
          longest = λ v d rest t f. rw prefix (most v (other_shape (shape rest t f)));
          allowed = free (λ a b _. never a b);
        })
      where
        prefix : take (length e.bytes) bs ≡ e.bytes
        prefix = rw (starts_sound e.bytes bs s) (take-append_seam e.bytes _)

        most : (v : List ℕ) → Other bs v → length v ≤ length e.bytes
        most v (two_plain x y z) = absurd (never x y)
        most v (listed x n f g r) =
            rw f (rw eq at (found_longest 3 bs spelled_falling n (rw f at r)))
    spelled_right eq (miss f) = (tokenless none_there (free (λ a b _. never a b)))
      where
        none_there : Tokenless bs
        none_there v d rest t e = go (other_shape (shape rest t e))
          where
            go : Other bs v → ⊥
            go (two_plain x y z) = never x y
            go (listed x n p g r) = contrary (rw p at r) (f x n)

  pub right_plain : Right bs (plain_step bs)
  unfolding plain_step
  right_plain = go (is_plain (byte_at bs 0) && is_plain (byte_at bs 1)) refl
    where
      third :
          is_plain (byte_at bs 0) ≡ true →
          is_plain (byte_at bs 1) ≡ true →
          (y : Bool) →
          is_plain (byte_at bs 2) ≡ y →
          Right bs (if y then Err 0 else step (edge_code (half_of (byte_at bs 0)) (half_of (byte_at bs 1))) 2)
      third a b true c = (barred (together a b c))
      third a b false c =
          right_taken (ap length (plain_list bs a b))
          (edge_taken a b c)

      go : (y : Bool) → is_plain (byte_at bs 0) && is_plain (byte_at bs 1) ≡ y → Right bs (plain_step bs)
      go true e =
          let a = and_left (is_plain (byte_at bs 0)) _ e in
          let b = and_right (is_plain (byte_at bs 0)) _ e in rw e (third a b (is_plain (byte_at bs 2)) refl)
      go false e = rw e (spelled_right e refl (found spellings bs))
