-- Laws of states and answers one after the other.
--   Along, along_first, ..        the state of a name before the next event
--   Through, through_first, ..    the state in a list before the next event
use mathlib.Core.Path.{◌≡◌, refl, ap, ◌∙◌}
use mathlib.Core.List.{List}
use Prim.Native.Nat.{ℕ, suc, ◌+◌, ◌*◌, ◌<◌, ◌≤◌}
use native.Mathlib.Nat.{suc-mul, mul-le-mul_right}
use native.Mathlib.Omega.{arith}
use lib.ListN.{length, get_or}
use Rattle.columns.specs.Columns.{name_from, looked_at, NameAsked, SpeltAsked}

-- A column of a name: its state before event i is at p.
pub record Along (states : List ℕ) (names at n p before i : ℕ) : Type 0 where
  pub within : i ≤ n
  pub place : p ≡ at + i * names
  pub state : before ≡ get_or states p 0
  pub code : before < 8

module _ {tables : List ℕ} {base : ℕ} {states : List ℕ} {names at n : ℕ} {cols : List ℕ} {o : ℕ}
    (asked : NameAsked tables base states names at n cols o) where
  pub along_first : Along states names at n at (get_or states at 0) 0
  along_first =
      record {
        within = omega arith;
        place = omega arith;
        state = refl;
        code = asked.codes at (omega (arith, asked.there));
      }

  module _ {p before i : ℕ} (g : Along states names at n p before i) (l : i < n) where
    pub along_there : p + names < length states
    along_there =
        let e = mul-le-mul_right names l in
        let f = suc-mul i names in
        omega (arith, g.place, asked.there)

    pub along_code : get_or states (p + names) 0 < 8
    along_code = asked.codes (p + names) along_there

    pub along_next : Along states names at n (p + names) (get_or states (p + names) 0) (i + 1)
    along_next =
        let f = suc-mul i names in
        let e : ◌≡◌ {A = ℕ} (i + 1) (suc i) = omega arith in
        record {
          within = omega arith;
          place = rw e (omega (arith, g.place));
          state = refl;
          code = along_code;
        }

    pub along_looked : get_or tables (base + (8 * before + get_or states (p + names) 0)) 0
        ≡ looked_at tables base (name_from states names at) i
    along_looked =
        let a = along_next.place in
        ap (λ (x : ℕ). get_or tables (base + (8 * x + get_or states (p + names) 0)) 0)
        (g.state ∙ ap (λ (x : ℕ). get_or states x 0) g.place)
        ∙ ap (λ (x : ℕ). get_or tables (base + (8 * get_or states (at + i * names) 0 + get_or states x 0)) 0) a

-- A column of states in a list: the state before event i.
pub record Through (spelt : List ℕ) (n before i : ℕ) : Type 0 where
  pub within : i ≤ n
  pub state : before ≡ get_or spelt i 0
  pub code : before < 8

module _ {tables : List ℕ} {base : ℕ} {spelt : List ℕ} {n : ℕ} {cols : List ℕ} {o : ℕ}
    (asked : SpeltAsked tables base spelt n cols o) where
  pub through_first : Through spelt n (get_or spelt 0 0) 0
  through_first = record { within = omega arith; state = refl; code = asked.codes 0 (omega arith) }

  module _ {before i : ℕ} (g : Through spelt n before i) (l : i < n) where
    pub through_code : get_or spelt (i + 1) 0 < 8
    through_code = asked.codes (i + 1) (omega arith)

    pub through_next : Through spelt n (get_or spelt (i + 1) 0) (i + 1)
    through_next = record { within = omega arith; state = refl; code = through_code }

    pub through_looked : get_or tables (base + (8 * before + get_or spelt (i + 1) 0)) 0
        ≡ looked_at tables base (λ j. get_or spelt j 0) i
    through_looked =
        ap (λ (x : ℕ). get_or tables (base + (8 * x + get_or spelt (i + 1) 0)) 0) g.state
