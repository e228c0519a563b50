-- What the table of tokens says of whole ranges of codes, each by one computed test. A kind is told by its number.
--   kind_by, kind_in_lem   the kind of a code from its number, and so for all codes of a range
--   literal_kind, prefix_kind, code_binary   literals, prefixes, operators between two operands
use Prim.Native.Nat.{ℕ, zero, suc, ◌+◌, ◌<◌, ◌≤◌}
use native.Mathlib.Omega.{arith}
use mathlib.Core.Path.{◌≡◌, refl, sym, ap, ◌∙◌}
use mathlib.Core.Bool.{true}
use lib.Dec.{eqb}
use borrow.Author.Tests.{eqb-true}
use Rattle.basics.proofs.Ranges.{all_from, all_from_law}
use Rattle.grammar.specs.Tokens.{Kind, operand, prefix, question, colon, opening, closing, other, binary}
use Rattle.grammar.specs.Tokens.{table, kind_in, kind}
use Rattle.writer.specs.Layout.{code_at, level_at}

kind_number : Kind → ℕ
kind_number operand = 0
kind_number prefix = 1
kind_number question = 2
kind_number colon = 3
kind_number opening = 4
kind_number closing = 5
kind_number other = 6
kind_number (binary l) = suc (suc (suc (suc (suc (suc (suc l))))))

kind_at : ℕ → Kind
kind_at zero = operand
kind_at (suc zero) = prefix
kind_at (suc (suc zero)) = question
kind_at (suc (suc (suc zero))) = colon
kind_at (suc (suc (suc (suc zero)))) = opening
kind_at (suc (suc (suc (suc (suc zero))))) = closing
kind_at (suc (suc (suc (suc (suc (suc zero)))))) = other
kind_at (suc (suc (suc (suc (suc (suc (suc l))))))) = binary l

kind_back : (k : Kind) → kind_at (kind_number k) ≡ k
unfolding kind_at kind_number
kind_back operand = refl
kind_back prefix = refl
kind_back question = refl
kind_back colon = refl
kind_back opening = refl
kind_back closing = refl
kind_back other = refl
kind_back (binary l) = refl

kind_by : (k k' : Kind) → eqb (kind_number k) (kind_number k') ≡ true → k ≡ k'
kind_by k k' h = sym (kind_back k) ∙ ap kind_at (eqb-true _ _ h) ∙ kind_back k'

-- for each code of a range
kind_in_lem : (f : ℕ → ℕ) (g : ℕ → Kind) (lo n c : ℕ)
    → all_from (λ b. eqb (kind_number (kind (f b))) (kind_number (g b))) lo n ≡ true → lo ≤ c → c < lo + n
    → kind (f c) ≡ g c
kind_in_lem f g lo n c t l u =
    kind_by _ _ (all_from_law (λ b. eqb (kind_number (kind (f b))) (kind_number (g b))) lo n c t l u)

pub literal_kind : (s : ℕ) → s < 8 → kind (32 + s) ≡ operand
unfolding kind_number kind kind_in table
literal_kind s h = kind_in_lem (λ b. b) (λ b. operand) 32 8 (32 + s) refl (omega arith) (omega arith)

pub prefix_kind : (c : ℕ) → 64 ≤ c → c < 148 → kind c ≡ prefix
unfolding kind_number kind kind_in table
prefix_kind c l u = kind_in_lem (λ b. b) (λ b. prefix) 64 84 c refl l (omega arith)

pub code_binary : (b : ℕ) → 40 ≤ b → b < 60 → kind (code_at b) ≡ binary (level_at b)
unfolding kind_number kind kind_in table code_at level_at
code_binary b l u = kind_in_lem code_at (λ b. binary (level_at b)) 40 20 b refl l (omega arith)
