-- Row 6 of the table: the first token that is an unknown name, by its index and by its byte.
--   unknown_here    where the search ends at a token, the row is given at its byte
--   unknown_never   where it ends at none, the row is given nowhere
--   names_numbered  and then the number of each name is that of a slot
use mathlib.Core.Path.{◌≡◌, refl, sym, subst}
use mathlib.Core.Bool.{Bool, true, false}
use mathlib.Core.List.{List, [], ◌∷◌}
use mathlib.Core.Logic.{◌⊎◌, inl, inr}
use Prim.Native.Nat.{ℕ, zero, suc, ◌≤◌, ◌<◌}
use native.Mathlib.Omega.{arith}
use lib.Dec.{eqb}
use lib.ListN.{length, get_or}
use borrow.Author.Tests.{eqb-true, eqb-false}
use Rattle.alf.specs.Names.{names_in, name_at}
use Rattle.basics.proofs.Bools.{and_left, and_right, below?}
use Rattle.basics.proofs.AllEntries.{All, none, more}
use Rattle.grammar.specs.declared.Token as node
use Rattle.grammar.specs.Tokens.{tokens}
use Rattle.tokens.specs.Texts.{Token, token_at}
use Rattle.tokens.specs.Tokenizing.{codes_of, places_of}
use Rattle.tokens.proofs.Places.{Rising, rising_at}
use Rattle.sorting.specs.Lookup.{word, number_at, is_unknown, unknown_at}
use Rattle.reader.specs.Texts.{tokens_of}
use Rattle.reader.specs.Reading.{Stands, here, there, Unknown, unknown}
use Rattle.sorting.proofs.SlotNumbers.{number_found_lem, first_passes, first_before}

-- a name by its index
token_is : (t : Token) → t.code ≡ 0 → token_at 0 t.place ≡ t
token_is t e = λ i. record { code = sym e i; place = t.place }

at_head : (t : Token) (ts : List Token) → t.code ≡ 0 → Stands t.place (t ∷ ts)
at_head t ts e = subst (λ (u : Token). Stands t.place (u ∷ ts)) (token_is t e) here

stands_at : (ts : List Token) (i : ℕ) → i < length ts → get_or (codes_of ts) i 0 ≡ 0
    → Stands (get_or (places_of ts) i 0) ts
stands_at [] i h e = absurd (omega arith)
stands_at (t ∷ ts) zero h e = at_head t ts e
stands_at (t ∷ ts) (suc i) h e = there (stands_at ts i (omega arith) e)

record Indexed (ts : List Token) (p : ℕ) : Type 0 where
  index : ℕ
  within : index < length ts
  code : get_or (codes_of ts) index 0 ≡ 0
  place : get_or (places_of ts) index 0 ≡ p

indexed : {p : ℕ} {ts : List Token} → Stands p ts → Indexed ts p
indexed here = record { index = 0; within = omega arith; code = refl; place = refl }
indexed (there s) =
    let r = indexed s in
    let w = r.within in
    record { index = suc r.index; within = omega arith; code = r.code; place = r.place }

-- places rise
rising_le :
    (ts : List Token) (lo i j : ℕ) → Rising lo ts → i ≤ j → j < length ts
    → get_or (places_of ts) i 0 ≤ get_or (places_of ts) j 0
rising_le [] lo i j r l h = absurd (omega arith)
rising_le (t ∷ ts) lo zero zero r l h = omega arith
rising_le (t ∷ ts) lo zero (suc j) r l h =
    let k = rising_at ts (suc t.place) j r.1 (omega arith) in omega arith
rising_le (t ∷ ts) lo (suc i) zero r l h = absurd (omega arith)
rising_le (t ∷ ts) lo (suc i) (suc j) r l h = rising_le ts (suc t.place) i j r.1 (omega arith) (omega arith)

module _ (names text : List ℕ) where
  -- what the test says
  test_missing :
      (c p : ℕ) → is_unknown names text c p ≡ true
      → (c ≡ 0) × ((k : ℕ) → k < names_in names → name_at names k ≡ word text p → ⊥)
  unfolding is_unknown
  test_missing c p e =
      let n : number_at names text p ≡ names_in names = eqb-true _ _ (and_right (eqb c 0) _ e) in (
        eqb-true c 0 (and_left (eqb c 0) _ e),
        λ k l f. (number_found_lem names (word text p)).before k (omega (arith, n)) f,
      )

  test_there : (p : ℕ) → is_unknown names text 0 p ≡ false
      → ((k : ℕ) → k < names_in names → name_at names k ≡ word text p → ⊥) → ⊥
  unfolding is_unknown
  test_there p e m =
      let f = number_found_lem names (word text p) in
      let n = eqb-false (number_at names text p) (names_in names) e in
      let l : number_at names text p < names_in names = omega (arith, f.within) in
      m (number_at names text p) l (f.there l)

  module _ (ts : List Token) (rise : Rising 0 ts) where
    abbrev at : ℕ
    at = unknown_at names text (codes_of ts) (places_of ts) (length ts)

    abbrev test : ℕ → Bool
    test i = is_unknown names text (get_or (codes_of ts) i 0) (get_or (places_of ts) i 0)

    passed : {p : ℕ} → (u : Unknown names text ts p) → (i : Indexed ts p) → i.index < at → ⊥
    passed u i l =
        let e = first_before (length ts) test i.index l in
        test_there _ (rw (i.code, i.place) at e) u.missing

    pub unknown_here : at < length ts → unknown names text ts (get_or (places_of ts) at 0)
    unknown_here l =
        let m = test_missing _ _ (first_passes (length ts) test l) in
        record {
          given = record { stands = stands_at ts at l m.0; missing = m.1 };
          before = λ q h u. earlier q h u (indexed u.stands) (below? (indexed u.stands).index at);
        }
      where
        earlier :
            (q : ℕ) →
            q < get_or (places_of ts) at 0 →
            Unknown names text ts q →
            (i : Indexed ts q) →
            (i.index < at) ⊎ (at ≤ i.index) →
            ⊥
        earlier q h u i (inl k) = passed u i k
        earlier q h u i (inr k) = omega (arith, rising_le ts 0 at i.index rise k i.within, i.place)

    pub unknown_never : length ts ≤ at → (p : ℕ) → Unknown names text ts p → ⊥
    unknown_never l p u = let i = indexed u.stands in let w = i.within in passed u i (omega arith)

-- where no name is unknown, the number of each is that of a slot
pub names_numbered :
    (names bytes : List ℕ) (ts : List Token) →
    ((p : ℕ) → Unknown names bytes ts p → ⊥) →
    All (λ (t : node.Token). t.code ≡ 0 → number_at names bytes t.place < names_in names) (tokens_of ts)
unfolding tokens
names_numbered names bytes [] known = none
names_numbered names bytes (t ∷ ts) known =
    more {x = record { code = t.code; place = t.place }}
    (λ e. numbered e (below? (number_at names bytes t.place) (names_in names)))
    (names_numbered names bytes ts (λ p u. known p (record { stands = there u.stands; missing = u.missing })))
  where
    numbered :
        t.code ≡ 0 →
        (number_at names bytes t.place < names_in names) ⊎ (names_in names ≤ number_at names bytes t.place) →
        number_at names bytes t.place < names_in names
    numbered e (inl l) = l
    numbered e (inr l) =
        absurd
        (known t.place
        (record {
          stands = at_head t ts e;
          missing = λ k h f. (number_found_lem names (word bytes t.place)).before k (omega arith) f;
        }))
