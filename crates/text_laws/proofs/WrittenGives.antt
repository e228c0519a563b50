-- The text of an accepted tree, of whatever length, gives the expression that the tree is.
--   text_gives       of an expression over checked names, within the limits
--   written_gives    of a tree that is accepted
use Prim.Native.Nat.{ℕ, ◌≤◌}
use native.Mathlib.Omega.{arith}
use mathlib.Core.Path.{◌≡◌, refl, sym, ap, ◌∙◌}
use mathlib.Core.Bool.{false}
use mathlib.Core.List.{List, map}
use lib.ListN.{length}
use Rattle.alf.specs.Names.{names_in}
use Rattle.alf.specs.declared.Rules.{Rules}
use Rattle.alf.specs.declared.Sort.{Sort}
use Rattle.alf.specs.Expressions.{Expression, boolean, vector, ExpressionOver}
use Rattle.alf.specs.Bytes.{bytes_of}
use Rattle.basics.proofs.Bools.{never}
use Rattle.alf.proofs.Decoding.{bytes_decode, decode_over}
use Rattle.tokens.specs.Texts as texts
use Rattle.grammar.specs.declared.Token.{Token}
use Rattle.grammar.specs.Tokens.{counted}
use Rattle.grammar.specs.Answers.{codes_of}
use Rattle.grammar.specs.Written.{written, depth}
use Rattle.grammar.proofs.Written.{expression_formed}
use Rattle.grammar.proofs.Fewest.{counted_nodes}
use Rattle.grammar.proofs.Depth.{written_depth}
use Rattle.trees.specs.Parts.{expression_at}
use Rattle.trees.specs.Brackets.{depth_of}
use Rattle.acceptance.specs.Accepted.{Accepted, sort_of_lem, over_size}
use Rattle.sorting.specs.Lookup.{number_at}
use Rattle.sorting.specs.Sorts.{is, given, asked, sorted_for}
use Rattle.reader.specs.Texts.{tokens_of}
use Rattle.reader.specs.Reading.{too_large, Gives}
use Rattle.writer.specs.Trees.{tree_of}
use Rattle.writer.specs.Trees.{text}
use Rattle.spelling.specs.TokenPlaces.{tokens_from}
use Rattle.writer.specs.Writing.{text_at, Named}
use Rattle.spelling.proofs.Reading.{AllKnown}
use Rattle.writer.proofs.Known.{written_known, tree_known, nodes_bytes}
use Rattle.acceptance.proofs.Acceptance.{decoded, accepted_decodes}
use Rattle.writer.proofs.Calls.{names_named}
use Rattle.writer.proofs.Theorems.{text_tokens, text_parses}
use Rattle.text_laws.proofs.Renumbering.{renumbered, numbers, codes_by, Matched, matched}
use Rattle.text_laws.proofs.Sorting.{matched_sorted}
use Rattle.text_laws.proofs.BracketDepths.{tree_depth}
use Rattle.text_laws.proofs.TokenLimits.{never_deep, never_many, depth_renumbered, counted_renumbered}
use Rattle.text_laws.proofs.WrittenNames.{placed_numbered, none_unknown}

-- the sort that was asked for
asked_is : (x : Expression) (bytes : ℕ) → asked (sort_of_lem x) bytes x ≡ is x
unfolding asked sort_of_lem
asked_is (boolean c) bytes = refl
asked_is (vector p) bytes = refl

-- within limit 8
never_large : (ρ : Rules) (x : Expression) → over_size ρ x ≡ false → (p : ℕ) → too_large ρ (is x) p → ⊥
unfolding too_large over_size
never_large ρ (boolean c) h p l = l
never_large ρ (vector v) h p l = never (sym h ∙ l.given)

-- of an expression over checked names, within the limits of a text's tokens, brackets and alternatives
module _ {names : List ℕ} (h : Named names) (x : Expression) (o : ExpressionOver (names_in names) x) where
  abbrev pub written_tokens : List Token
  written_tokens = written 6 (tree_of x)

  abbrev pub number : ℕ → ℕ
  number = number_at names (text names x)

  abbrev pub there : List texts.Token
  there = tokens_from names 0 written_tokens

  known : AllKnown names written_tokens
  known = written_known 6 (tree_known (names_named h) x o)

  same_tokens : map (renumbered number) (tokens_of there) ≡ map (renumbered (λ k. k)) written_tokens
  unfolding text
  same_tokens = placed_numbered h (text names x) 0 known refl

  pub codes_there : codes_of (tokens_of there) ≡ codes_of written_tokens
  codes_there =
      sym (codes_by (numbers number) (tokens_of there))
      ∙ ap codes_of same_tokens
      ∙ codes_by (numbers (λ k. k)) written_tokens

  tree_there : Matched number (λ k. k) (tokens_of there) (tree_of x)
  tree_there = matched number (λ k. k) same_tokens (text_parses h x o)

  depth_there : depth 0 (tokens_of there) ≡ depth_of x
  depth_there =
      sym (depth_renumbered number (tokens_of there) 0)
      ∙ ap (depth 0) same_tokens
      ∙ depth_renumbered (λ k. k) written_tokens 0
      ∙ written_depth (expression_formed (text_parses h x o))
      ∙ tree_depth x

  counted_there : counted (tokens_of there) ≡ length (bytes_of x)
  unfolding counted
  counted_there =
      sym (counted_renumbered number (tokens_of there))
      ∙ ap counted same_tokens
      ∙ counted_renumbered (λ k. k) written_tokens
      ∙ omega (arith, counted_nodes (text_parses h x o), nodes_bytes x)

  pub text_gives : (ρ : Rules) → length (bytes_of x) ≤ 256 → depth_of x ≤ 32 → over_size ρ x ≡ false
      → Gives ρ names (text names x) (sort_of_lem x) x
  unfolding text sorted_for given
  text_gives ρ few shallow small =
      record {
        tokens = there;
        read = text_tokens h x o;
        shallow = never_deep there (omega (arith, depth_there));
        few = never_many there (omega (arith, counted_there));
        tree = tree_there.tree;
        whole = tree_there.whole;
        known = none_unknown h (text names x) known refl;
        sorts = rw (matched_sorted (names_in names) number x o tree_there) (asked_is x _);
        small = never_large ρ x small;
      }

-- of a tree that is accepted
pub written_gives : {ρ : Rules} {names tree : List ℕ} {sort : Sort} → Named names
    → Accepted ρ (names_in names) sort tree
    → Gives ρ names (text_at names tree) sort (expression_at tree (names_in names) (length tree))
unfolding text_at
written_gives {ρ} {names} {tree} {sort} h a =
    let n = names_in names in
    let x = a.expression in
    let b = ap length (bytes_decode n tree x (accepted_decodes a)) in
    rw (decoded n tree x (accepted_decodes a), ← a.sorted)
    (text_gives h x (decode_over n tree x (accepted_decodes a)) ρ (omega (arith, a.tokens)) a.brackets
    a.sized)
