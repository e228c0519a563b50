-- A kind and its rank, the number that the code goes by, are one to one on the table's kinds. Main names: rank_kind
-- (the kind of a rank), rank_binary, rank_above, not_starting.
use Rattle.std.specs.Prelude.{if◌then◌else◌}
use Prim.Native.Nat.{ℕ, ◌<◌}
use native.Mathlib.Omega.{arith}
use mathlib.Core.Path.{◌≡◌, refl, sym, ap, ◌∙◌}
use mathlib.Core.Bool.{false}
use mathlib.Core.List.{List, [], ◌∷◌}
use lib.Dec.{eqb, lit<}
use borrow.Author.Tests.{ne_eqb}
use Rattle.grammar.specs.declared.Token.{Token}
use Rattle.grammar.specs.Tokens.{Kind, operand, prefix, question, colon, opening, closing, other, binary}
use Rattle.grammar.specs.Tokens.{ahead}
use Rattle.grammar.specs.Stops.{rank, starts}
use Rattle.grammar.specs.Views.{View, going, stopped, ahead_v}
use Rattle.grammar.proofs.Table.{binary_level_lem}

-- the kind that has a rank
abbrev pub unrank : ℕ → Kind
unrank r =
    if eqb r 32 then operand else
    if eqb r 33 then prefix else
    if eqb r 6 then question else
    if eqb r 61 then colon else
    if eqb r 62 then opening else
    if eqb r 63 then closing else
    if eqb r 99 then other else
    binary r

-- of which a binary operator's level is 2 to 5
abbrev Low : Kind → Type 0
Low k = (m : ℕ) → k ≡ binary m → (1 < m) × (m < 6)

unrank_rank : (k : Kind) → Low k → unrank (rank k) ≡ k
unrank_rank operand h = refl
unrank_rank prefix h = refl
unrank_rank question h = refl
unrank_rank colon h = refl
unrank_rank opening h = refl
unrank_rank closing h = refl
unrank_rank other h = refl
unrank_rank (binary l) h =
    let low = h l refl in
    rw (
      ne_eqb l 32 (omega arith),
      ne_eqb l 33 (omega arith),
      ne_eqb l 6 (omega arith),
      ne_eqb l 61 (omega arith),
      ne_eqb l 62 (omega arith),
      ne_eqb l 63 (omega arith),
      ne_eqb l 99 (omega arith),
    )

low_ahead : (ts : List Token) → Low (ahead ts)
low_ahead [] m e = let z : ◌≡◌ {A = ℕ} 0 1 = cc in absurd (omega arith)
low_ahead (t ∷ ts) m e = binary_level_lem t.code m e

low_ahead_v : (v : View) → Low (ahead_v v)
low_ahead_v (going ts out) m e = low_ahead ts m e
low_ahead_v (stopped ts) m e = let z : ◌≡◌ {A = ℕ} 0 1 = cc in absurd (omega arith)

pub rank_ahead : (ts : List Token) {r : ℕ} → rank (ahead ts) ≡ r → ahead ts ≡ unrank r
rank_ahead ts e = sym (unrank_rank (ahead ts) (low_ahead ts)) ∙ ap unrank e

pub rank_kind : (v : View) {r : ℕ} → rank (ahead_v v) ≡ r → ahead_v v ≡ unrank r
rank_kind v e = sym (unrank_rank (ahead_v v) (low_ahead_v v)) ∙ ap unrank e

-- the level of a binary operator
pub rank_binary : (k : Kind) (m : ℕ) → rank k ≡ m → m < 6 → k ≡ binary m
rank_binary operand m e h = absurd (omega (arith, e))
rank_binary prefix m e h = absurd (omega (arith, e))
rank_binary question m e h = absurd (omega (arith, e))
rank_binary colon m e h = absurd (omega (arith, e))
rank_binary opening m e h = absurd (omega (arith, e))
rank_binary closing m e h = absurd (omega (arith, e))
rank_binary other m e h = absurd (omega (arith, e))
rank_binary (binary l) m e h = ap binary e

-- every operator's level is above 1, and only ? is of level 6
above_one : (k : Kind) → Low k → 1 < rank k
above_one operand h = lit< tt
above_one prefix h = lit< tt
above_one question h = lit< tt
above_one colon h = lit< tt
above_one opening h = lit< tt
above_one closing h = lit< tt
above_one other h = lit< tt
above_one (binary l) h = (h l refl).0

pub rank_above : (ts : List Token) → 1 < rank (ahead ts)
rank_above ts = above_one (ahead ts) (low_ahead ts)

-- what starts no expression
pub not_starting :
    (k : Kind) → ¬ (rank k ≡ 32) → ¬ (rank k ≡ 33) → ¬ (rank k ≡ 62) → starts k ≡ false
not_starting operand a b c = absurd (a refl)
not_starting prefix a b c = absurd (b refl)
not_starting question a b c = refl
not_starting colon a b c = refl
not_starting opening a b c = absurd (c refl)
not_starting closing a b c = refl
not_starting other a b c = refl
not_starting (binary l) a b c = refl
