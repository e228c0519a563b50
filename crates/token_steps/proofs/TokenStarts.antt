-- What a token at the start of bs tells of bs, and how long it is.
--   token_size     a token has a byte
--   shape          a name, a based literal or edge, an unbased edge, or one of the spellings
--   entry_good     what every spelling has
use mathlib.Core.Path.{◌≡◌, refl}
use mathlib.Core.Bool.{Bool, true, false, not, ◌&&◌, ◌||◌}
use mathlib.Core.Logic.{◌⊎◌, inl, inr}
use mathlib.Core.List.{List, [], ◌∷◌, ◌++◌}
use Prim.Native.Nat.{ℕ, ◌≤◌, ◌<◌}
use native.Mathlib.Omega.{arith}
use lib.Dec.{eqb, leb}
use lib.ListN.{length}
use borrow.Author.Tests.{leb-true, lt-ltb, not-true}
use Rattle.basics.specs.Words.{all}
use Rattle.alf.specs.Names.{is_letter, starts_name, goes_on_name, is_name}
use Rattle.alf.specs.States.{among}
use Rattle.basics.proofs.Bools.{and_left, and_right}
use Rattle.alf.proofs.NameBytes.{starts_goes_on}
use Rattle.token_steps.specs.Classes.{half_of}
use Rattle.token_steps.specs.Spelling.{Spelling, ◌In◌, spellings, IsToken}
use Rattle.token_steps.specs.Spelling.IsToken.{name, spelled, literal, edge, based_edge}
use Rattle.token_steps.specs.Taking.{byte_at, name_bytes, is_plain, is_based}
use Rattle.token_steps.specs.Steps.{starts}
use Rattle.token_steps.proofs.Bytes.{contrary}
use Rattle.token_steps.proofs.Search.{all_in, in_all, starts_complete}

-- what every entry of the spellings has
abbrev head : Spelling → ℕ
head e = byte_at e.bytes 0

abbrev good : Spelling → Bool
good e =
    (not (starts_name (head e)) && not (eqb (head e) 39)) &&
    ((leb 1 (length e.bytes) && leb (length e.bytes) 3) &&
    (not (is_plain (head e)) || leb (length e.bytes) 2))

pub record Good (e : Spelling) : Type 0 where
  pub unnamed : starts_name (head e) ≡ false
  pub unquoted : eqb (head e) 39 ≡ false
  pub some : 1 ≤ length e.bytes
  pub short : length e.bytes ≤ 3
  pub pair : is_plain (head e) ≡ true → length e.bytes ≤ 2

implied : (a b : Bool) → not a || b ≡ true → a ≡ true → b ≡ true
implied true b h k = h
implied false b h k = absurd (contrary k refl)

goods : all_in good spellings ≡ true
unfolding spellings starts_name is_letter half_of among
goods = refl

good_of : (e : Spelling) → good e ≡ true → Good e
good_of e t =
    let l = and_left (not (starts_name (head e)) && not (eqb (head e) 39)) _ t in
    let r = and_right (not (starts_name (head e)) && not (eqb (head e) 39)) _ t in
    let s = and_left (leb 1 (length e.bytes) && leb (length e.bytes) 3) _ r in
    record {
      unnamed = not-true _ (and_left (not (starts_name (head e))) _ l);
      unquoted = not-true _ (and_right (not (starts_name (head e))) _ l);
      some = leb-true 1 _ (and_left (leb 1 (length e.bytes)) _ s);
      short = leb-true _ 3 (and_right (leb 1 (length e.bytes)) _ s);
      pair = λ h. leb-true _ 2 (implied (is_plain (head e)) _
          (and_right (leb 1 (length e.bytes) && leb (length e.bytes) 3) _ r) h);
    }

pub entry_good : {e : Spelling} → e In spellings → Good e
entry_good {e} m = good_of e (in_all good m goods)

pub token_size : {w : List ℕ} {c : ℕ} → IsToken w c → 0 < length w
unfolding is_name
token_size (name {w = w} h) = go w h
  where
    go : (v : List ℕ) → is_name v ≡ true → 0 < length v
    go [] h = absurd (contrary h refl)
    go (b ∷ v) h = omega arith
token_size (spelled m) = (entry_good m).some
token_size (literal x h k) = omega arith
token_size (edge x y h k) = omega arith
token_size (based_edge x y h k) = omega arith

-- name bytes at the start
names_prefix : (w rest : List ℕ) → all goes_on_name w ≡ true → length w ≤ name_bytes (w ++ rest)
unfolding all name_bytes
names_prefix [] rest h = omega arith
names_prefix (b ∷ w) rest h =
    let k = names_prefix w rest (and_right (goes_on_name b) _ h) in
    rw (and_left (goes_on_name b) _ h) (omega arith)

pub data Shape (bs v : List ℕ) : Type 0 where
  as_name : starts_name (byte_at bs 0) ≡ true → length v ≤ name_bytes bs → Shape bs v
  as_based :
      byte_at bs 0 ≡ 39 →
      is_based bs 0 ≡ true →
      (length v ≡ 3) ⊎ ((length v ≡ 6) × (byte_at bs 3 ≡ 39)) →
      Shape bs v
  as_edge : is_plain (byte_at bs 0) ≡ true → is_plain (byte_at bs 1) ≡ true → length v ≡ 2 → Shape bs v
  as_spelled :
      (e : Spelling) →
      e In spellings →
      v ≡ e.bytes →
      byte_at bs 0 ≡ byte_at v 0 →
      starts v bs ≡ true →
      Shape bs v

first_byte : (v rest : List ℕ) → 0 < length v → byte_at (v ++ rest) 0 ≡ byte_at v 0
first_byte [] rest h = absurd (omega arith)
first_byte (b ∷ v) rest h = refl

shape_of_lem : {v : List ℕ} {d : ℕ} (rest : List ℕ) → IsToken v d → Shape (v ++ rest) v
unfolding is_name
shape_of_lem rest (name {w = w} h) = go w h
  where
    go : (v : List ℕ) → is_name v ≡ true → Shape (v ++ rest) v
    go [] h = absurd (contrary h refl)
    go (b ∷ v) h =
        let s = and_left (starts_name b) _ h in
        let r = and_left (all goes_on_name v) _ (and_right (starts_name b) _ h) in
        as_name s (names_prefix (b ∷ v) rest (unfold all in (rw (starts_goes_on b s) r)))
shape_of_lem rest (spelled {w = w} m) =
    as_spelled _ m refl (first_byte w rest (entry_good m).some) (starts_complete w rest)
shape_of_lem rest (literal x h k) = as_based refl (lt-ltb (half_of x) 9 k) (inl refl)
shape_of_lem rest (edge x y h k) = as_edge (lt-ltb (half_of x) 3 h) (lt-ltb (half_of y) 3 k) refl
shape_of_lem rest (based_edge x y h k) = as_based refl (lt-ltb (half_of x) 9 h) (inr (refl, refl))

pub shape : {bs v : List ℕ} {d : ℕ} (rest : List ℕ) → IsToken v d → bs ≡ v ++ rest → Shape bs v
shape rest t e = rw e (shape_of_lem rest t)
