-- What a text gives has its bytes as its tree (gives_decodes), and is accepted (gives_accepted). Each part of
-- `Accepted` is from the row of the table that was not given:
--   decodes    6: the expression is over the names of the list
--   sorted     7
--   tokens     4: the bytes are as many as the text's counted tokens
--   brackets   3: no text of the tree nests its brackets less deep than the written one
--   sized      8
use Prim.Native.Nat.{ℕ, ◌≤◌}
use native.Mathlib.Omega.{arith}
use mathlib.Core.Path.{◌≡◌, refl, sym}
use mathlib.Core.Bool.{Bool, true, false}
use mathlib.Core.List.{List}
use lib.ListN.{length}
use Rattle.alf.specs.Names.{names_in}
use Rattle.alf.specs.declared.Rules.{Rules}
use Rattle.alf.specs.declared.Sort.{Sort}
use Rattle.alf.specs.declared.Sort.TheVariants as the_sort
use Rattle.alf.specs.Expressions.{Expression, boolean, vector, ExpressionOver}
use Rattle.alf.specs.Alternatives.{alternatives, over_limit}
use Rattle.alf.specs.Steady.{meant}
use Rattle.alf.specs.Bytes.{bytes_of}
use Rattle.alf.specs.Decoder.{Decodes}
use Rattle.alf.specs.Refusals.{Passed}
use Rattle.alf.proofs.Encoding.{decode_bytes}
use Rattle.alf.proofs.FewNames.{decodes_encoded}
use Rattle.names.specs.Check.{names_order}
use Rattle.tokens.proofs.TextLaws.{reads_unique}
use Rattle.grammar.specs.Tokens.{counted}
use Rattle.grammar.specs.Written.{Formed}
use Rattle.grammar.proofs.Written.{expression_formed}
use Rattle.grammar.proofs.Fewest.{counted_nodes}
use Rattle.grammar.proofs.Depth.{written_depth, written_shallowest}
use Rattle.trees.specs.Brackets.{depth_of}
use Rattle.acceptance.specs.Accepted.{sort_of_lem, over_size, Accepted}
use Rattle.sorting.specs.Lookup.{number_at}
use Rattle.sorting.specs.Sorts.{Sorted, is, faulty, given, asked, sorted, sorted_for}
use Rattle.reader.specs.Texts.{tokens_of}
use Rattle.reader.specs.Reading.{too_large, Gives}
use Rattle.reader.proofs.Limits.{call_over}
use Rattle.reader.proofs.Texts.{few_counted, nodes_inside}
use Rattle.reader.proofs.Unknowns.{names_numbered}
use Rattle.names.proofs.Few.{names_few}
use Rattle.writer.specs.Trees.{tree_of}
use Rattle.writer.proofs.Known.{nodes_bytes}
use Rattle.text_laws.proofs.BracketDepths.{tree_depth}
use Rattle.text_laws.proofs.SortedTrees.{sorted_bare, same_depth, same_size}
use Rattle.text_laws.proofs.Renumbering.{bare}
use Rattle.text_laws.proofs.Nesting.{shallow_depth}

-- what was sorted has the sort asked for
record Fits (q : Sorted) (sort : Sort) (x : Expression) : Type 0 where
  was : q ≡ is x
  sort_is : sort_of_lem x ≡ sort

asked_fits : (sort : Sort) (bytes : ℕ) (x y : Expression) → asked sort bytes x ≡ is y → Fits (is x) sort y
unfolding asked sort_of_lem
asked_fits the_sort.Boolean b (boolean c) y e =
    let z : boolean c ≡ y = cc in rw (sym z) (record { was = refl; sort_is = refl })
asked_fits the_sort.Boolean b (vector p) y e = let z : ◌≡◌ {A = ℕ} 0 1 = cc in absurd (omega arith)
asked_fits the_sort.Vector b (boolean c) y e = let z : ◌≡◌ {A = ℕ} 0 1 = cc in absurd (omega arith)
asked_fits the_sort.Vector b (vector p) y e =
    let z : vector p ≡ y = cc in rw (sym z) (record { was = refl; sort_is = refl })

given_fits : (sort : Sort) (bytes : ℕ) (q : Sorted) (y : Expression) → given q (asked sort bytes) ≡ is y
    → Fits q sort y
unfolding given
given_fits sort b (is x) y e = asked_fits sort b x y e
given_fits sort b (faulty p) y e = let z : ◌≡◌ {A = ℕ} 0 1 = cc in absurd (omega arith)

-- limit 8
small_sized : (ρ : Rules) (x : Expression) → ((p : ℕ) → too_large ρ (is x) p → ⊥) → over_size ρ x ≡ false
unfolding too_large over_size
small_sized ρ (boolean c) small = refl
small_sized ρ (vector p) small = go (over_limit (alternatives (meant ρ p))) refl
  where
    go : (b : Bool) → over_limit (alternatives (meant ρ p)) ≡ b → over_limit (alternatives (meant ρ p)) ≡ false
    go true e = absurd (small 0 (record { given = e; there = refl }))
    go false e = e

module _ {ρ : Rules} {names text : List ℕ} {sort : Sort} {x : Expression} (good : Passed (names_order names))
    (g : Gives ρ names text sort x) where
  formed : Formed g.tree
  formed = expression_formed g.whole

  fits : Fits (sorted (number_at names text) g.tree) sort x
  unfolding sorted_for
  fits = given_fits sort (length text) (sorted (number_at names text) g.tree) x g.sorts

  same_tokens : bare g.tree ≡ bare (tree_of x)
  same_tokens = sorted_bare (number_at names text) formed fits.was

  over : ExpressionOver (names_in names) x
  over =
      call_over (names_in names) (number_at names text) sort (length text) formed
      (nodes_inside g.whole (names_numbered names text g.tokens g.known)) g.sorts

  few : counted (tokens_of g.tokens) ≤ 256
  few = few_counted text g.read (λ p o. g.few p (rw (reads_unique o.read g.read) at o.holds))

  few_bytes : length (bytes_of x) ≤ 256
  few_bytes = omega (arith, nodes_bytes x, same_size g.tree (tree_of x) same_tokens, counted_nodes g.whole, few)

  few_brackets : depth_of x ≤ 32
  few_brackets =
      omega (
        arith,
        tree_depth x,
        same_depth g.tree (tree_of x) same_tokens 6,
        written_depth formed,
        written_shallowest g.whole,
        shallow_depth g.read g.shallow,
      )

  pub gives_decodes : Decodes (names_in names) (bytes_of x) x
  gives_decodes = decode_bytes (names_in names) (names_few names good) x over

  pub gives_accepted : Accepted ρ (names_in names) sort (bytes_of x)
  gives_accepted =
      record {
        expression = x;
        encodes = decodes_encoded _ _ _ gives_decodes;
        sorted = fits.sort_is;
        tokens = few_bytes;
        brackets = few_brackets;
        sized = small_sized ρ x g.small;
      }
