-- Laws of tables one after the other: those before c are there, and the next leaves them.
--   Tabling, tabling_first, -next, -end     the tables of some edges
use mathlib.Core.Path.{◌≡◌, refl, ◌∙◌}
use mathlib.Core.List.{List}
use mathlib.Core.Logic.{◌⊎◌, inl, inr}
use Prim.Native.Nat.{ℕ, ◌+◌, ◌*◌, ◌<◌, ◌≤◌}
use native.Mathlib.Omega.{arith}
use lib.ListN.{length, get_or}
use Rattle.basics.proofs.Bools.{equal?}
use Rattle.columns.specs.Passes.{Over}
use Rattle.columns.specs.Columns.{table_at, TablesAsked, Tables}
use Rattle.columns.proofs.Passing.{over_length, over_inside, over_before}

pub record Tabling (edges : List ℕ) (n : ℕ) (tables₀ tables : List ℕ) (c : ℕ) : Type 0 where
  pub within : c ≤ n
  pub long : length tables ≡ length tables₀
  pub at : (d q : ℕ) → d < c → q < 64 → get_or tables (d * 64 + q) 0 ≡ table_at (get_or edges d 0) q

module _ {edges : List ℕ} {n : ℕ} {tables₀ : List ℕ} where
  pub tabling_first : Tabling edges n tables₀ tables₀ 0
  tabling_first = record { within = omega arith; long = refl; at = λ d q h l. absurd (omega arith) }

  module _ {tables : List ℕ} {c : ℕ} (g : Tabling edges n tables₀ tables c) where
    pub tabling_next : {tables' : List ℕ} → TablesAsked edges n tables₀ → c < n
        → Over tables (c * 64) 64 (table_at (get_or edges c 0)) tables'
        → Tabling edges n tables₀ tables' (c + 1)
    tabling_next {tables'} asked l o =
        record {
          within = omega arith;
          long = over_length o ∙ g.long;
          at = λ d q h k. go d q h k (equal? d c);
        }
      where
        go : (d q : ℕ) → d < c + 1 → q < 64 → (d ≡ c) ⊎ (d ≡ c → ⊥)
            → get_or tables' (d * 64 + q) 0 ≡ table_at (get_or edges d 0) q
        go d q h k (inl e) = rw e (over_inside o q k (omega (arith, g.long, asked.room)))
        go d q h k (inr e) = over_before o (d * 64 + q) (omega arith) ∙ g.at d q (omega arith) k

    pub tabling_end : n ≤ c → Tables edges n tables
    tabling_end h = record { at = λ d q l k. g.at d q (omega arith) k }
