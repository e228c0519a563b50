-- What the functions that write a sign's spelling are proved by: the code's tables, and the spelling's cases.
--   slot_name, name_room                      a slot's first bytes are its name
--   half_table, mark_bytes, mark_small        the tables of halves and marks
--   literal-.., pair-.., word-.., mark-..     the spelling's cases
--   wording-..                                what `put_word` asks of the function for each case
--   pair_start, two_start, three_start        where the writing of several parts begins
use Prim.Native.Nat.{ℕ, ◌+◌, ◌-◌, ◌*◌, ◌/◌, ◌%◌, ◌<◌, ◌≤◌}
use native.Mathlib.Omega.{arith}
use mathlib.Core.Path.{◌≡◌, refl, ◌∙◌}
use mathlib.Core.Bool.{Bool, true, false, ◌&&◌}
use mathlib.Core.List.{List, [], ◌∷◌, ◌++◌}
use lib.Dec.{eqb, ltb}
use lib.ListN.{length, get_or, take, drop, length-take}
use borrow.Author.Tests.{eqb-true, ltb-true, ltb-false, lt-ltb, le-ltb, ne_eqb}
use Rattle.alf.specs.Names.{name_at}
use Rattle.basics.proofs.Bools.{and_left, and_right}
use Rattle.names.specs.Check.{NameLength}
use Rattle.names.proofs.Slots.{slot_part, name_part}
use Rattle.token_steps.specs.Spelling.{based}
use Rattle.token_steps.specs.Inner.{word_of}
use Rattle.basics.proofs.Ranges.{all_from, all_from_law}
use Rattle.basics.specs.Words.{same}
use Rattle.basics.proofs.Entries.{same_sound}
use Rattle.spelling.specs.Spelled.{half_byte, literal_spelled, pair_spelled, operators, marks, prefixes, sign_spelled}
use Rattle.spelling.specs.Signs.{word, mark_at_lem}
use Rattle.spelling.specs.Inner.{Naming, Halving, Pairing, Wording}
use Rattle.basics.specs.Memory.{Room}
use Rattle.spelling.specs.Inner.{Marking}
use Rattle.basics.specs.Memory.{Roomy}
use Rattle.basics.proofs.PartByPart.{flat, Going, going_start}

-- a slot's name is its first bytes
pub slot_name : (names : List ℕ) (i : ℕ) {n : ℕ}
    → NameLength (take (i * 32 + 32 - i * 32) (drop (i * 32) names)) n
    → take (i * 32 + n - i * 32) (drop (i * 32) names) ≡ name_at names i
slot_name names i {n} h =
    let l = length-take (i * 32 + 32 - i * 32) (drop (i * 32) names) in
    name_part names i n (omega (arith, h.within)) ∙ (rw (slot_part names i) at h).name

-- the tables
abbrev halves : List ℕ
halves = 63 ∷ 48 ∷ 49 ∷ 88 ∷ 72 ∷ 76 ∷ 87 ∷ 90 ∷ 85 ∷ []

half_at_lem : (h : ℕ) → h < 9 → eqb (get_or halves h 0) (half_byte h) ≡ true
unfolding half_byte
half_at_lem h k = all_from_law (λ c. eqb (get_or halves c 0) (half_byte c)) 0 9 h refl (omega arith) (omega arith)

pub half_table : (h : ℕ) → h < 9 → get_or halves h 0 ≡ half_byte h
half_table h k = eqb-true _ _ (half_at_lem h k)

abbrev bytes : List ℕ
bytes =
    38 ∷ 0 ∷ 0 ∷ 124 ∷ 0 ∷ 0 ∷ 94 ∷ 0 ∷ 0 ∷ 126 ∷ 94 ∷ 0 ∷ 61 ∷ 61 ∷ 0 ∷ 33 ∷ 61 ∷
    0 ∷ 62 ∷ 0 ∷ 0 ∷ 60 ∷ 0 ∷ 0 ∷
    62 ∷ 61 ∷ 0 ∷ 60 ∷ 61 ∷ 0 ∷ 45 ∷ 62 ∷ 0 ∷ 60 ∷ 45 ∷ 62 ∷ 38 ∷ 62 ∷ 0 ∷ 60 ∷ 38 ∷
    62 ∷ 63 ∷ 0 ∷ 0 ∷ 58 ∷ 0 ∷ 0 ∷
    40 ∷ 0 ∷ 0 ∷ 41 ∷ 0 ∷ 0 ∷ 63 ∷ 33 ∷ 0 ∷ 63 ∷ 45 ∷ 0 ∷ 33 ∷ 0 ∷ 0 ∷ []

abbrev marked : ℕ → List ℕ
marked c = word_of (get_or bytes (mark_at_lem c * 3) 0) (get_or bytes (mark_at_lem c * 3 + 1) 0) (get_or bytes (mark_at_lem c * 3 + 2) 0)

right_mark : ℕ → Bool
right_mark c = same (marked c) (sign_spelled c)

marks_right : (all_from right_mark 40 14 && (all_from right_mark 60 4 && all_from right_mark 145 3)) ≡ true
unfolding same right_mark mark_at_lem word_of sign_spelled operators marks prefixes pair_spelled literal_spelled half_byte
marks_right = refl

mark_right : (c : ℕ) → 40 ≤ c → c < 148 → (54 ≤ c → 60 ≤ c) → (64 ≤ c → 145 ≤ c)
    → right_mark c ≡ true
mark_right c l k f g = go (ltb c 54) (ltb c 64) refl refl
  where
    others : (all_from right_mark 60 4 && all_from right_mark 145 3) ≡ true
    others = and_right (all_from right_mark 40 14) _ marks_right

    go : (x y : Bool) → ltb c 54 ≡ x → ltb c 64 ≡ y → right_mark c ≡ true
    go true y e d =
        all_from_law right_mark 40 14 c (and_left (all_from right_mark 40 14) _ marks_right) l
        (omega (arith, ltb-true c 54 e))
    go false true e d =
        all_from_law right_mark 60 4 c (and_left (all_from right_mark 60 4) _ others) (f (ltb-false c 54 e))
        (omega (arith, ltb-true c 64 d))
    go false false e d =
        all_from_law right_mark 145 3 c (and_right (all_from right_mark 60 4) _ others) (g (ltb-false c 64 d))
        (omega arith)

pub mark_bytes : {c : ℕ} {out : List ℕ} {at : ℕ} → Marking c out at → marked c ≡ sign_spelled c
unfolding right_mark
mark_bytes {c} h = same_sound _ _ (mark_right c h.low h.known h.apart h.unpaired)

small_mark : ℕ → Bool
small_mark c = ltb (mark_at_lem c) 21

marks_small : all_from small_mark 40 108 ≡ true
unfolding small_mark mark_at_lem
marks_small = refl

pub mark_small : {c : ℕ} {out : List ℕ} {at : ℕ} → Marking c out at → mark_at_lem c < 21
unfolding small_mark
mark_small {c} h = ltb-true _ 21 (all_from_law small_mark 40 108 c marks_small h.low (omega (arith, h.known)))

-- the spelling's cases
pub literal_plain : (h : ℕ) → h < 3 → literal_spelled h ≡ half_byte h ∷ []
unfolding literal_spelled
literal_plain h k = rw (lt-ltb h 3 k)

pub literal_based : (h : ℕ) → 3 ≤ h → literal_spelled h ≡ based (half_byte h)
unfolding literal_spelled
literal_based h k = rw (le-ltb h 3 k)

pub pair_plain : (f t : ℕ) → f < 3 → t < 3
    → pair_spelled f t ≡ flat ((half_byte f ∷ []) ∷ (half_byte t ∷ []) ∷ [])
unfolding pair_spelled
pair_plain f t h k = rw (lt-ltb f 3 h, lt-ltb t 3 k)

pub pair_first : (f t : ℕ) → 3 ≤ f → pair_spelled f t ≡ based (half_byte f) ++ based (half_byte t)
unfolding pair_spelled
pair_first f t h = rw (le-ltb f 3 h)

pub pair_second : (f t : ℕ) → f < 3 → 3 ≤ t → pair_spelled f t ≡ based (half_byte f) ++ based (half_byte t)
unfolding pair_spelled
pair_second f t h k = rw (lt-ltb f 3 h, le-ltb t 3 k)

pub one_byte : (x y z : ℕ) → y ≡ 0 → word_of x y z ≡ flat ((x ∷ []) ∷ [])
unfolding word_of
one_byte x y z e = rw e

pub two_bytes : (x y z : ℕ) → (y ≡ 0 → ⊥) → z ≡ 0
    → word_of x y z ≡ flat ((x ∷ []) ∷ (y ∷ []) ∷ [])
unfolding word_of
two_bytes x y z f e = rw (ne_eqb y 0 f, e)

pub three_bytes : (x y z : ℕ) → (y ≡ 0 → ⊥) → (z ≡ 0 → ⊥)
    → word_of x y z ≡ flat ((x ∷ []) ∷ (y ∷ []) ∷ (z ∷ []) ∷ [])
unfolding word_of
three_bytes x y z f g = rw (ne_eqb y 0 f, ne_eqb z 0 g)

-- at least its first byte, and a second
pub some_byte : (x y z : ℕ) → 1 ≤ length (word_of x y z)
unfolding word_of
some_byte x y z = omega arith

pub some_bytes : (x y z : ℕ) → (y ≡ 0 → ⊥) → 2 ≤ length (word_of x y z)
unfolding word_of
some_bytes x y z f = rw (ne_eqb y 0 f) (omega arith)

pub word_name : (names : List ℕ) (s : ℕ) → s < 32 → word names s ≡ name_at names s
unfolding word
word_name names s h = rw (lt-ltb s 32 h)

module _ (names : List ℕ) (s : ℕ) where
  word_sign : 32 ≤ s → word names s ≡ sign_spelled s
  unfolding word
  word_sign h = rw (le-ltb s 32 h)

  pub word_literal : 32 ≤ s → s < 40 → word names s ≡ literal_spelled (s - 31)
  unfolding sign_spelled
  word_literal h k = word_sign h ∙ rw (lt-ltb s 40 k)

  pub word_mark : 40 ≤ s → word names s ≡ sign_spelled s
  word_mark h = word_sign (omega arith)

  pub word_pair : 64 ≤ s → s < 145 → word names s ≡ pair_spelled ((s - 64) / 9) ((s - 64) % 9)
  unfolding sign_spelled
  word_pair h k =
      let a : 40 ≤ s = omega arith in
      let b : 60 ≤ s = omega arith in
      word_sign (omega arith) ∙ rw (le-ltb s 40 a, le-ltb s 60 b, le-ltb s 64 h, lt-ltb s 145 k)

-- what each function asks of the next
pub name_room : (names : List ℕ) (i : ℕ) {n : ℕ} {out : List ℕ} {at : ℕ} → Naming names i out at
    → NameLength (take (i * 32 + 32 - i * 32) (drop (i * 32) names)) n
    → Room out at (take (i * 32 + n - i * 32) (drop (i * 32) names))
name_room names i h k = rw (slot_name names i k) h.room

pub literal_half : {h : ℕ} {out : List ℕ} {at : ℕ} → Halving h out at (literal_spelled h) → h < 3
    → Halving h out at (half_byte h ∷ [])
literal_half {h} k l = rw (literal_plain h l) at k

pub literal_base : {h : ℕ} {out : List ℕ} {at : ℕ} → Halving h out at (literal_spelled h) → 3 ≤ h
    → Halving h out at (based (half_byte h))
literal_base {h} k l = rw (literal_based h l) at k

pub pairing_as : {f t : ℕ} {out : List ℕ} {at : ℕ} {v w : List ℕ} → Pairing f t out at v → v ≡ w
    → Pairing f t out at w
pairing_as h e = rw e at h

pub mark_word : {c k : ℕ} {out : List ℕ} {at : ℕ} → Marking c out at → k ≡ mark_at_lem c
    → word_of (get_or bytes (k * 3) 0) (get_or bytes (k * 3 + 1) 0) (get_or bytes (k * 3 + 2) 0) ≡ sign_spelled c
mark_word h e = rw e (mark_bytes h)

pub mark_low : (c : ℕ) → c < 60 → c - 40 ≡ mark_at_lem c
unfolding mark_at_lem
mark_low c h = rw (lt-ltb c 60 h)

pub mark_middle : (c : ℕ) → 60 ≤ c → c < 64 → c - 46 ≡ mark_at_lem c
unfolding mark_at_lem
mark_middle c h k = rw (le-ltb c 60 h, lt-ltb c 64 k)

pub mark_high : (c : ℕ) → 64 ≤ c → c - 127 ≡ mark_at_lem c
unfolding mark_at_lem
mark_high c h = let k : 60 ≤ c = omega arith in rw (le-ltb c 60 k, le-ltb c 64 h)

module _ {names : List ℕ} {s : ℕ} {out : List ℕ} {at : ℕ} (h : Wording names s out at) where
  room_as : {w : List ℕ} → word names s ≡ w → Room out at w
  room_as e = rw e at h.room

  pub wording_name : s < 32 → Naming names s out at
  wording_name k = record { there = h.sign.named k; room = room_as (word_name names s k) }

  pub wording_literal : 32 ≤ s → s < 40 → Halving (s - 31) out at (literal_spelled (s - 31))
  wording_literal l k = record { known = omega arith; room = room_as (word_literal names s l k) }

  pub wording_mark : 40 ≤ s → (64 ≤ s → 145 ≤ s) → Marking s out at
  wording_mark l f =
      record {
        low = l;
        known = h.sign.known;
        apart = h.sign.apart;
        unpaired = f;
        room = room_as (word_mark names s l);
      }

  pub wording_pair : 64 ≤ s → s < 145
      → Pairing ((s - 64) / 9) ((s - 64) % 9) out at (pair_spelled ((s - 64) / 9) ((s - 64) % 9))
  wording_pair l k =
      record { first = omega arith; second = omega arith; room = room_as (word_pair names s l k) }

-- where the writing of several parts begins
pub pair_start : {f t : ℕ} {out : List ℕ} {at : ℕ} → Pairing f t out at (pair_spelled f t) → f < 3 → t < 3
    → Going out at (pair_spelled f t) ((half_byte f ∷ []) ∷ (half_byte t ∷ []) ∷ []) out at
pair_start {f} {t} h k l = going_start _ (pair_plain f t k l) h.room

module _ (x y z : ℕ) {out : List ℕ} {at : ℕ} (h : Roomy out at (word_of x y z)) (f : y ≡ 0 → ⊥) where
  pub two_start : z ≡ 0 → Going out at (word_of x y z) ((x ∷ []) ∷ (y ∷ []) ∷ []) out at
  two_start e = going_start _ (two_bytes x y z f e) h.room

  pub three_start : (z ≡ 0 → ⊥)
      → Going out at (word_of x y z) ((x ∷ []) ∷ (y ∷ []) ∷ (z ∷ []) ∷ []) out at
  three_start g = going_start _ (three_bytes x y z f g) h.room

pub mark_roomy : {c k : ℕ} {out : List ℕ} {at : ℕ} → Marking c out at → k ≡ mark_at_lem c
    → Roomy out at (word_of (get_or bytes (k * 3) 0) (get_or bytes (k * 3 + 1) 0) (get_or bytes (k * 3 + 2) 0))
mark_roomy h e = rw (mark_word h e) (record { room = h.room })
