-- The step at a name is right. Main names: right_name; names_le: name bytes stand inside the text.
use Rattle.std.specs.Prelude.{Err, if◌then◌else◌}
use mathlib.Core.Path.{◌≡◌, refl, sym, ap}
use mathlib.Core.Bool.{Bool, true, false}
use mathlib.Core.List.{List, [], ◌∷◌}
use Prim.Native.Nat.{ℕ, suc, ◌≤◌, ◌<◌}
use native.Mathlib.Omega.{arith}
use lib.Dec.{eqb, leb}
use lib.ListN.{length, take, drop, take-append-drop}
use lib.Seq.{length-take-le}
use borrow.Author.Tests.{ne_eqb, leb-true, leb-false, lt-ltb}
use Rattle.basics.specs.Words.{all}
use Rattle.alf.specs.Names.{starts_name, goes_on_name, is_name}
use Rattle.token_steps.specs.Spelling.IsToken.{name}
use Rattle.token_steps.specs.Taking.{byte_at, name_bytes, Taken}
use Rattle.token_steps.specs.Taking.Barred.{overlong}
use Rattle.token_steps.specs.Taking.NoToken.{barred}
use Rattle.token_steps.specs.Steps.{step, name_step}
use Rattle.token_steps.proofs.Bytes.{contrary, plain_unnamed, quote_unnamed}
use Rattle.token_steps.proofs.TokenStarts.{Shape, as_name, as_based, as_edge, as_spelled, shape, entry_good}
use Rattle.token_steps.proofs.Right.{Right, right_taken, barred_other}

pub names_le : (bs : List ℕ) → name_bytes bs ≤ length bs
unfolding name_bytes
names_le [] = omega arith
names_le (b ∷ bs) = go (goes_on_name b) (names_le bs)
  where
    go : (q : Bool) → name_bytes bs ≤ length bs → (if q then suc (name_bytes bs) else 0) ≤ suc (length bs)
    go true h = omega arith
    go false h = omega arith

names_all : (bs : List ℕ) → all goes_on_name (take (name_bytes bs) bs) ≡ true
unfolding name_bytes all
names_all [] = refl
names_all (b ∷ bs) = go (goes_on_name b) refl (names_all bs)
  where
    go :
        (q : Bool) →
        goes_on_name b ≡ q →
        all goes_on_name (take (name_bytes bs) bs) ≡ true →
        all goes_on_name (take (if q then suc (name_bytes bs) else 0) (b ∷ bs)) ≡ true
    go true e h = rw (e, h)
    go false e h = refl

names_first : (b : ℕ) (bs : List ℕ) → starts_name b ≡ true → name_bytes (b ∷ bs) ≡ suc (name_bytes bs)
unfolding name_bytes goes_on_name
names_first b bs h = rw h

name_token :
    (b : ℕ) (bs : List ℕ) →
    starts_name b ≡ true →
    name_bytes bs < 32 →
    is_name (b ∷ take (name_bytes bs) bs) ≡ true
unfolding is_name
name_token b bs h k =
    rw (h, names_all bs, length-take-le (name_bytes bs) bs (names_le bs), lt-ltb (name_bytes bs) 32 k)

name_longest : {bs v : List ℕ} → starts_name (byte_at bs 0) ≡ true → Shape bs v → length v ≤ name_bytes bs
name_longest h (as_name a b) = b
name_longest {bs} h (as_based a b c) = absurd (contrary h (quote_unnamed (byte_at bs 0) a))
name_longest {bs} h (as_edge a b c) = absurd (contrary h (plain_unnamed (byte_at bs 0) a))
name_longest {bs} h (as_spelled e m q f s) =
    absurd (contrary h (rw (f, q) (entry_good m).unnamed))

name_unquoted : (b : ℕ) → starts_name b ≡ true → eqb b 39 ≡ false
name_unquoted b h = ne_eqb b 39 (λ e. contrary h (quote_unnamed b e))

pub right_name : (b : ℕ) (bs : List ℕ) → starts_name b ≡ true → Right (b ∷ bs) (name_step (b ∷ bs))
unfolding name_step
right_name b bs h = go (leb (name_bytes (b ∷ bs)) 32) refl
  where
    taken : name_bytes (b ∷ bs) ≤ 32 → Taken (b ∷ bs) (b ∷ take (name_bytes bs) bs) 0 (drop (name_bytes bs) bs)
    taken k =
        record {
          token = name (name_token b bs h (omega (arith, names_first b bs h)));
          there = ap (λ (l : List ℕ). b ∷ l) (sym (take-append-drop (name_bytes bs) bs));
          longest = λ v d rest t e.
              let j = name_longest h (shape rest t e) in
              let i = length-take-le (name_bytes bs) bs (names_le bs) in omega (arith, names_first b bs h);
          allowed = barred_other (name_unquoted b h) (λ p _ _. contrary h (plain_unnamed b p)) (λ _ q. omega arith);
        }

    go :
        (q : Bool) →
        leb (name_bytes (b ∷ bs)) 32 ≡ q →
        Right (b ∷ bs) (if q then step 0 (name_bytes (b ∷ bs)) else Err 0)
    go true e =
        rw (names_first b bs h)
        (right_taken (ap suc (length-take-le (name_bytes bs) bs (names_le bs)))
        (taken (leb-true _ 32 e)))
    go false e = (barred (overlong h (leb-false _ 32 e)))
