-- `rank_of` gives each code its rank: a computed test of each arm's range.
use Prim.Native.Nat.{ℕ, ◌+◌, ◌≤◌, ◌<◌}
use native.Mathlib.Omega.{arith}
use mathlib.Core.Path.{◌≡◌, refl}
use mathlib.Core.Bool.{true}
use lib.Dec.{eqb}
use borrow.Author.Tests.{eqb-true}
use Rattle.basics.proofs.Ranges.{all_from, all_from_law}
use Rattle.grammar.specs.Tokens.{table, kind_in, kind}
use Rattle.grammar.specs.Stops.{rank}
use Rattle.parser_steps.proofs.cursor.rank_of.Goals as goal

-- f gives the rank of each of n codes from lo on
ranked :
    (f : ℕ → ℕ) (lo n b : ℕ) →
    all_from (λ k. eqb (f k) (rank (kind k))) lo n ≡ true →
    lo ≤ b →
    b < lo + n →
    f b ≡ rank (kind b)
ranked f lo n b t h k = eqb-true _ _ (all_from_law (λ k. eqb (f k) (rank (kind k))) lo n b t h k)

pub returns-in-40 : goal.returns-in-40
returns-in-40 c = ranked (λ k. 3) 40 1 _ (unfold kind kind_in table in refl) (omega arith) (omega arith)

pub returns-in-41 : goal.returns-in-41
returns-in-41 c = ranked (λ k. 5) 41 1 _ (unfold kind kind_in table in refl) (omega arith) (omega arith)

pub returns-in-60 : goal.returns-in-60
returns-in-60 c = ranked (λ k. 6) 60 1 _ (unfold kind kind_in table in refl) (omega arith) (omega arith)

pub returns-in-42-to-49 : goal.returns-in-42-to-49
returns-in-42-to-49 c =
    ranked (λ k. 2) 42 8 _ (unfold kind kind_in table in refl) (omega arith) (omega arith)

pub returns-in-50-to-53 : goal.returns-in-50-to-53
returns-in-50-to-53 c =
    ranked (λ k. 4) 50 4 _ (unfold kind kind_in table in refl) (omega arith) (omega arith)

pub returns-in-61-to-63 : goal.returns-in-61-to-63
returns-in-61-to-63 c =
    ranked (λ k. k) 61 3 _ (unfold kind kind_in table in refl) (omega arith) (omega arith)

pub returns-in-64-to-147 : goal.returns-in-64-to-147
returns-in-64-to-147 c =
    ranked (λ k. 33) 64 84 _ (unfold kind kind_in table in refl) (omega arith) (omega arith)

pub returns-in_default : goal.returns-in_default
returns-in_default c =
    ranked (λ k. 99) 1 31 _ (unfold kind kind_in table in refl) (omega arith) (omega arith)

pub returns-in_default-2 : goal.returns-in_default-2
returns-in_default-2 c =
    ranked (λ k. 99) 54 6 _ (unfold kind kind_in table in refl) (omega arith) (omega arith)

pub returns-in_default-3 : goal.returns-in_default-3
returns-in_default-3 c =
    ranked (λ k. 99) 148 108 _ (unfold kind kind_in table in refl) (omega arith) (omega arith)

pub returns-in-0 : goal.returns-in-0
returns-in-0 c = ranked (λ k. 32) 0 1 _ (unfold kind kind_in table in refl) (omega arith) (omega arith)

pub returns-in-0-2 : goal.returns-in-0-2
returns-in-0-2 c =
    ranked (λ k. 32) 32 8 _ (unfold kind kind_in table in refl) (omega arith) (omega arith)
