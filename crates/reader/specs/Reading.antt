-- Document 01, "Numbers for refused work", for a text: rows 5 to 8 over the text's tokens and its tree, the whole
-- order, and what is read. That any two answers coincide is a law.
--   stuck                               5
--   Stands, Unknown, unknown            6
--   fault, own, faults, faults_for, faults_in, unsorted     7
--   too_large                            8
--   OfTree, sorted_in                    a row that speaks of the text's tree; what the tree is sorted as
--   tree_order, read_order                rows 5 to 8; all rows in their order
--   Gives, ReadsText                    what a text gives, and what is read
--   Clear, Unlimited                    the same, limit 8 aside
use Rattle.std.specs.Prelude.{Result, Ok, Err, ℕ, ◌<◌, ◌≡◌, List, [], ◌∷◌, ◌++◌, length, get_or}
use Rattle.alf.specs.declared.Rules.{Rules}
use Rattle.alf.specs.declared.Sort.{Sort}
use Rattle.alf.specs.Names.{names_in, name_at}
use Rattle.alf.specs.Expressions.{Expression, boolean, vector}
use Rattle.alf.specs.Alternatives.{alternatives}
use Rattle.alf.specs.Steady.{meant}
use Rattle.basics.specs.declared.Refusal.{Refusal}
use Rattle.alf.specs.Refusals.{Row, Order, check, no_grammar, unknown_name, wrong_sort, over_limits}
use Rattle.alf.specs.Refusals as refusals
use Rattle.names.specs.Check.{names_order}
use Rattle.tokens.specs.Texts.{Token, token_at, Reads, OfTokens, deep, many, order}
use Rattle.tokens.specs.Extents.{RefusedIn}
use Rattle.grammar.specs.Grammar as grammar
use Rattle.grammar.specs.Grammar.{Tree, leaf, one, two, three}
use Rattle.grammar.specs.Answers.{Stuck}
use Rattle.reader.specs.declared.Read.{Read}
use Rattle.sorting.specs.Lookup.{word, number_at}
use Rattle.sorting.specs.Sorts.{Sorted, is, faulty, of_one, of_two, of_three, asked, sorted, sorted_for}
use Rattle.reader.specs.Texts.{tokens_of}
use Rattle.reader.specs.Reads.{made}

-- 6: a name stands at byte p
pub data Stands (p : ℕ) : List Token → Type 0 where
  here : {ts : List Token} → Stands p (token_at 0 p ∷ ts)
  there : {t : Token} {ts : List Token} → Stands p ts → Stands p (t ∷ ts)

-- and no slot holds it
pub record Unknown (names text : List ℕ) (ts : List Token) (p : ℕ) : Type 0 where
  pub stands : Stands p ts
  pub missing : (k : ℕ) → k < names_in names → name_at names k ≡ word text p → ⊥

-- 7: the places of the faulty operators, operands before operator, left before right; an operator is faulty that does
-- not take its operands' sorts, and has none itself where an operand has none
unfoldable pub fault : Sorted → List ℕ
fault (is x) = []
fault (faulty p) = p ∷ []

unfoldable pub own : Sorted → (Expression → List ℕ) → List ℕ
own (is x) f = f x
own (faulty p) f = []

unfoldable pub faults : (ℕ → ℕ) → Tree → List ℕ
faults number (leaf t) = []
faults number (one t a) = faults number a ++ own (sorted number a) (λ x. fault (of_one t x))
faults number (two t a b) =
    faults number a ++
    (faults number b ++ own (sorted number a) (λ x. own (sorted number b) (λ y. fault (of_two t x y))))
faults number (three t c a b) =
    faults number c ++
    (faults number a ++
    (faults number b ++
    own (sorted number c) (λ z. own (sorted number a) (λ x. own (sorted number b) (λ y. fault (of_three t z x y))))))

-- last, the sort asked for by the call
unfoldable pub faults_for : Sort → ℕ → (ℕ → ℕ) → Tree → List ℕ
faults_for sort bytes number e = faults number e ++ own (sorted number e) (λ x. fault (asked sort bytes x))

abbrev pub unsorted : List ℕ → Row
unsorted places = wrong_sort (λ i. i < length places) (λ i. get_or places i 0)

-- 8: of a vector expression, as the rules read it (document 02, [2]: "8 counts the added tests")
unfoldable pub too_large : Rules → Sorted → Row
too_large ρ (is (boolean c)) p = ⊥
too_large ρ (is (vector v)) p = over_limits (alternatives (meant ρ v)) p
too_large ρ (faulty q) p = ⊥

-- a row that speaks of the text's tree
pub record OfTree (text : List ℕ) (row : Tree → Row) (p : ℕ) : Type 0 where
  pub tokens : List Token
  pub read : Reads 0 text tokens
  pub tree : Tree
  pub whole : grammar.Expression (tokens_of tokens) tree
  pub holds : row tree p

abbrev pub stuck : List ℕ → List Token → Row
stuck text ts = no_grammar (Stuck (tokens_of ts) (length text))

abbrev pub unknown : List ℕ → List ℕ → List Token → Row
unknown names text ts = unknown_name (Unknown names text ts)

abbrev pub sorted_in : List ℕ → List ℕ → Sort → Tree → Sorted
sorted_in names text sort e = sorted_for sort (length text) (number_at names text) e

abbrev pub faults_in : List ℕ → List ℕ → Sort → Tree → List ℕ
faults_in names text sort e = faults_for sort (length text) (number_at names text) e

-- 5 to 8
unfoldable pub tree_order : Rules → List ℕ → List ℕ → Sort → Order
tree_order ρ names text sort =
    check 5 (OfTokens text (stuck text)) ∷
    check 6 (OfTokens text (unknown names text)) ∷
    check 7 (OfTree text (λ e. unsorted (faults_in names text sort e))) ∷
    check 8 (OfTree text (λ e. too_large ρ (sorted_in names text sort e))) ∷
    []

-- 18 and 12 for the name list, then 1 to 8, each over the whole text before the next
abbrev pub read_order : Rules → List ℕ → List ℕ → Sort → Order
read_order ρ names text sort = names_order names ++ (order text ++ tree_order ρ names text sort)

-- what text, of whatever length, gives an expression: 2 to 8 are given nowhere
pub record Gives (ρ : Rules) (names text : List ℕ) (sort : Sort) (x : Expression) : Type 0 where
  pub tokens : List Token
  pub read : Reads 0 text tokens
  pub shallow : (p : ℕ) → deep tokens p → ⊥
  pub few : (p : ℕ) → many tokens p → ⊥
  pub tree : Tree
  pub whole : grammar.Expression (tokens_of tokens) tree
  pub known : (p : ℕ) → Unknown names text tokens p → ⊥
  pub sorts : sorted_in names text sort tree ≡ is x
  pub small : (p : ℕ) → too_large ρ (is x) p → ⊥

-- what is read
pub data ReadsText (ρ : Rules) (names text : List ℕ) (sort : Sort) : Result Read Refusal → Type 0 where
  refused : (r : Refusal) → RefusedIn text (read_order ρ names text sort) r → ReadsText ρ names text sort (Err r)
  read : {x : Expression} → refusals.Passed (read_order ρ names text sort) → Gives ρ names text sort x
      → ReadsText ρ names text sort (Ok (made x))

-- the same, limit 8 aside: what is left to be asked of a text that 18, 12 and 1 to 7 let through
pub record Clear (names text : List ℕ) (sort : Sort) (x : Expression) : Type 0 where
  pub good : refusals.Passed (names_order names)
  pub clear : refusals.Passed (order text)
  pub tokens : List Token
  pub read : Reads 0 text tokens
  pub tree : Tree
  pub whole : grammar.Expression (tokens_of tokens) tree
  pub known : (p : ℕ) → Unknown names text tokens p → ⊥
  pub sorts : sorted_in names text sort tree ≡ is x

pub data Unlimited (ρ : Rules) (names text : List ℕ) (sort : Sort) : Result Read Refusal → Type 0 where
  refused : (r : Refusal) → ReadsText ρ names text sort (Err r) → Unlimited ρ names text sort (Err r)
  unlimited : {x : Expression} → Clear names text sort x → Unlimited ρ names text sort (Ok (made x))
