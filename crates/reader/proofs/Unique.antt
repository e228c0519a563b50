-- The answer of `read_expression` is unique, and what it reads is what the text gives.
--   read_fixed      each row of the order fixes its place
--   read_unique     any two answers that the contract allows coincide
--   gives_unique    a text gives one expression
--   read_sound      what is read is what the text gives; the list of names is good and the text has at most 4,096 bytes
--   gives_read      and a text that gives an expression, with such names and such a length, is read as it
--   read_complete   and as nothing else
use Rattle.std.specs.Prelude.{Result, Ok, Err}
use Rattle.basics.specs.declared.Refusal.{Refusal}
use mathlib.Core.Path.{◌≡◌, refl, sym, ap, ◌∙◌}
use mathlib.Core.List.{List, ◌++◌}
use Prim.Native.Nat.{ℕ, ◌≤◌}
use native.Mathlib.Omega.{arith}
use lib.ListN.{length}
use Rattle.alf.specs.declared.Rules.{Rules}
use Rattle.alf.specs.declared.Sort.{Sort}
use Rattle.alf.specs.Expressions.{Expression, boolean, vector}
use Rattle.alf.specs.Refusals.{Row, Passed}
use Rattle.alf.proofs.Outcomes.{Fixed, AllFixed, at_fixed, first_fixed, first_of_fixed, refused_passed}
use Rattle.names.specs.Check.{names_order}
use Rattle.alf.proofs.Orders.{fixed_both, sole_fixed, passed_left, passed_right}
use Rattle.tokens.specs.Texts.{Token, Reads, deep, many, order}
use Rattle.tokens.proofs.TextLaws.{reads_unique, reads_not_stuck}
use Rattle.tokens.proofs.ReadingLaws.{of_tokens_fixes, order_fixes}
use Rattle.tokens.proofs.ShownBytes.{refused_in_unique}
use Rattle.grammar.specs.Grammar.{Tree}
use Rattle.grammar.proofs.Unique.{parses_unique}
use Rattle.reader.specs.declared.Read.{Read}
use Rattle.sorting.specs.Sorts.{Sorted, is, faulty}
use Rattle.reader.specs.Reads.{made}
use Rattle.reader.specs.Reading.{too_large, OfTree, stuck, unknown, sorted_in, tree_order, read_order}
use Rattle.reader.specs.Reading.{Gives, ReadsText, refused, read}
use Rattle.reader.proofs.Readings.{read_clear}
use Rattle.reader.proofs.TokenedTexts.{text_short}

-- each row fixes its place
same_tree : {text : List ℕ} {row row' : Tree → Row} {p q : ℕ} (a : OfTree text row p) (b : OfTree text row' q)
    → b.tree ≡ a.tree
same_tree a b = parses_unique (rw (reads_unique b.read a.read) at b.whole) a.whole

of_tree_fixes : (text : List ℕ) (row : Tree → Row) → ((e : Tree) → Fixed (row e)) → Fixed (OfTree text row)
of_tree_fixes text row f p q a b = f a.tree p q a.holds (rw (same_tree a b) at b.holds)

large_fixes : (ρ : Rules) (q : Sorted) → Fixed (too_large ρ q)
unfolding too_large
large_fixes ρ (is (boolean c)) p r a b = absurd a
large_fixes ρ (is (vector v)) p r a b = at_fixed _ _ p r a b
large_fixes ρ (faulty s) p r a b = absurd a

tree_fixed : (ρ : Rules) (names text : List ℕ) (sort : Sort) → AllFixed (tree_order ρ names text sort)
unfolding tree_order
tree_fixed ρ names text sort = (
  of_tokens_fixes text (stuck text) (λ ts. first_fixed _),
  (
    of_tokens_fixes text (unknown names text) (λ ts. first_fixed _),
    (
      of_tree_fixes text _ (λ e. first_of_fixed _ _),
      (of_tree_fixes text _ (λ e. large_fixes ρ (sorted_in names text sort e)), tt),
    ),
  ),
)

pub read_fixed : (ρ : Rules) (names text : List ℕ) (sort : Sort) → AllFixed (read_order ρ names text sort)
read_fixed ρ names text sort =
    fixed_both (names_order names) (order text ++ tree_order ρ names text sort) (at_fixed _ _, (first_fixed _, tt))
    (fixed_both (order text) (tree_order ρ names text sort) (order_fixes text) (tree_fixed ρ names text sort))

-- a text gives one expression
pub gives_unique : {ρ : Rules} {names text : List ℕ} {sort : Sort} {x y : Expression} → Gives ρ names text sort x
    → Gives ρ names text sort y → x ≡ y
gives_unique {ρ} {names} {text} {sort} a b =
    let e = parses_unique (rw (reads_unique b.read a.read) at b.whole) a.whole in
    let s = rw e at b.sorts in
    let t = sym a.sorts ∙ s in cc

pub read_unique : {ρ : Rules} {names text : List ℕ} {sort : Sort} {r s : Result Read Refusal}
    → ReadsText ρ names text sort r → ReadsText ρ names text sort s → r ≡ s
read_unique {ρ} {names} {text} {sort} (refused r a) (refused s b) =
    let o = read_order ρ names text sort in
    ap Err (refused_in_unique text o (sole_fixed o (read_fixed ρ names text sort)) a b)
read_unique {ρ} {names} {text} {sort} (refused r a) (read b g) =
    absurd (refused_passed (read_order ρ names text sort) _ _ b a.by)
read_unique {ρ} {names} {text} {sort} (read a g) (refused r b) =
    absurd (refused_passed (read_order ρ names text sort) _ _ a b.by)
read_unique (read a g) (read b h) = ap (λ x. Ok (made x)) (gives_unique g h)

-- what is read is what the text gives
pub record ReadAs (ρ : Rules) (names text : List ℕ) (sort : Sort) (r : Read) : Type 0 where
  pub good : Passed (names_order names)
  pub short : length text ≤ 4096
  pub it : Expression
  pub gives : Gives ρ names text sort it
  pub is_it : r ≡ made it

pub read_sound : {ρ : Rules} {names text : List ℕ} {sort : Sort} {r : Read} → ReadsText ρ names text sort (Ok r)
    → ReadAs ρ names text sort r
read_sound {ρ} {names} {text} {sort} (read {x = x} a g) =
    record {
      good = passed_left (names_order names) _ a;
      short = text_short text (passed_left (order text) _ (passed_right (names_order names) _ a));
      it = x;
      gives = g;
      is_it = refl;
    }

text_clear : (text : List ℕ) {ts : List Token} → length text ≤ 4096 → Reads 0 text ts
    → ((p : ℕ) → deep ts p → ⊥) → ((p : ℕ) → many ts p → ⊥) → Passed (order text)
unfolding Passed order
text_clear text l r d m = (
  λ p a. let h = a.given in omega arith,
  (
    λ p a. reads_not_stuck r a.given,
    (
      λ p a. d p (rw (reads_unique a.read r) at a.holds),
      (λ p a. m p (rw (reads_unique a.read r) at a.holds), tt),
    ),
  ),
)

pub gives_read :
    {ρ : Rules} {names text : List ℕ} {sort : Sort} {x : Expression} →
    Passed (names_order names) →
    length text ≤ 4096 →
    Gives ρ names text sort x →
    ReadsText ρ names text sort (Ok (made x))
gives_read {ρ} {names} {text} {sort} n l g =
    read_clear ρ names text sort n (text_clear text l g.read g.shallow g.few) g.read g.whole g.known
    g.sorts g.small

pub read_complete :
    {ρ : Rules} {names text : List ℕ} {sort : Sort} {r : Result Read Refusal} {x : Expression} →
    Passed (names_order names) →
    length text ≤ 4096 →
    Gives ρ names text sort x →
    ReadsText ρ names text sort r →
    r ≡ Ok (made x)
read_complete n l g h = read_unique h (gives_read n l g)
