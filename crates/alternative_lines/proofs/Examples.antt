-- Texts, computed, byte for byte as the program `rewrite` prints them: alternatives, a condition, an empty step, a
-- contradictory alternative; and a test that cannot be read back.
use Prim.Native.Nat.{ℕ, zero, suc}
use mathlib.Core.Path.{◌≡◌, refl}
use mathlib.Core.List.{List, [], ◌∷◌, ◌++◌}
use lib.ListN.{replicate}
use Rattle.alf.specs.TableT.{A, B, C, rise, fall, pulse}
use Rattle.basics.specs.Words.{sum_of, some, all}
use Rattle.alf.specs.Names.{until_zero, slot}
use Rattle.alf.specs.States.{reduce}
use Rattle.alf.specs.Windows.{asked, digit_asked, letter_asked}
use Rattle.alf.specs.Expressions.{Boolean, negated, binary, or, the, pair, changes, Vector, edge, join, while}
use Rattle.alf.specs.Expressions.{followed_by_join, any_order, with, or_else, on_right}
use Rattle.alf.specs.Bytes.{binary_byte, half_number, edge_number, boolean_bytes, vector_bytes, bytes_of}
use Rattle.alf.specs.Alternatives.{test, each, padded, zipped, overlaid, conditioned, rewritten, alternatives, is_name}
use Rattle.alf.specs.Alternatives.{halves, literals_at, possible, contradictory}
use Rattle.trees.specs.Brackets.{binary_level, level_of, bracketed, boolean_depth, vector_depth, depth_of}
use Rattle.grammar.specs.Tokens.{table, kind_in, kind}
use Rattle.grammar.specs.Written.{fitted, written}
use Rattle.writer.specs.Trees.{join_code, boolean_tree, vector_tree, tree_of}
use Rattle.spelling.specs.Spelled.{half_byte, literal_spelled, pair_spelled, operators, marks, prefixes, sign_spelled}
use Rattle.spelling.specs.Spelled.{spelled, following, text_of_lem}
use Rattle.writer.specs.Trees.{text}
use Rattle.basics.specs.Text.{bytes, joined}
use Rattle.figures.specs.Numbers.{digits, width_up_to, width, decimal}
use Rattle.alternative_texts.specs.Texts.{readable, shown, expression_of, test_text, behind, between, step_text}
use Rattle.alternative_texts.specs.Texts.{alternative_text, missing}
use Rattle.alternative_lines.specs.Listing.{note, line_of, line, lines_from, listing}
use Rattle.alternative_texts.specs.Texts.{untold_test, untold}

-- the slots of the names A, B and C
unfoldable pub slot_of : ℕ → List ℕ
slot_of b = b ∷ replicate 31 0

unfoldable pub names : List ℕ
names = slot_of 65 ++ (slot_of 66 ++ slot_of 67)

-- `01 A <&> 10 B`; `( 01 A -> 10 B ) & C`; `10 C & ( 01 A -> 10 B )`; `01 A & 10 A | 'bX'b1 ( A | B ) -> ?! C`
abbrev pub contradicting : Vector
contradicting =
    join or_else (join with (edge rise A) (edge fall A))
    (join followed_by_join (edge (pair (the 2) (the 1)) (binary or A B)) (edge changes C))

pub as_printed :
    (listing names (alternatives (join any_order (edge rise A) (edge fall B)))
    ≡ bytes "number\tnote\talternative\n1\t-\t01 A -> 10 B\n2\t-\t01 A & 10 B\n3\t-\t10 B -> 01 A\n")
    × (listing names (alternatives (while on_right pulse C))
    ≡ bytes "number\tnote\talternative\n1\t-\t01 A & 11 C -> 10 B & 11 C\n")
    × (listing names (alternatives (join with (edge fall C) pulse))
    ≡ bytes "number\tnote\talternative\n1\t-\t01 A -> 10 C & 10 B\n")
    × (listing names (alternatives contradicting)
    ≡ bytes "number\tnote\talternative\n1\tcontradictory\t01 A & 10 A\n2\t-\t'bX'b1 ( A | B ) -> ?! C\n")
    × (listing names (((test rise A ∷ []) ∷ [] ∷ []) ∷ [])
    ≡ bytes "number\tnote\talternative\n1\t-\t01 A -> ( )\n")
unfolding
    names slot_of listing lines_from line line_of note alternative_text step_text between behind test_text expression_of shown
    readable bytes joined decimal width width_up_to digits text text_of_lem following spelled sign_spelled pair_spelled
    literal_spelled half_byte operators marks prefixes written fitted tree_of vector_tree boolean_tree join_code
    kind kind_in table until_zero slot bytes_of vector_bytes boolean_bytes binary_byte edge_number half_number depth_of
    vector_depth boolean_depth bracketed level_of binary_level alternatives rewritten each overlaid padded zipped
    conditioned contradictory possible literals_at halves is_name some all asked digit_asked letter_asked reduce
as_printed = (refl, refl, refl, refl, refl)

-- a name under 256 signs `!` has too many nodes: its test is shown as `...`, and counted
unfoldable pub notted : ℕ → Boolean
notted zero = A
notted (suc n) = negated (notted n)

pub not_readable : (test_text names (test rise (notted 256)) ≡ bytes "...")
    × (untold names (((test rise A ∷ test rise (notted 256) ∷ []) ∷ []) ∷ []) ≡ 1)
unfolding
    notted names slot_of test_text expression_of shown readable missing untold_test untold sum_of bytes bytes_of vector_bytes
    boolean_bytes edge_number half_number depth_of vector_depth boolean_depth bracketed level_of text text_of_lem following spelled
    sign_spelled pair_spelled literal_spelled half_byte operators marks prefixes written fitted tree_of vector_tree
    boolean_tree kind kind_in table until_zero slot
not_readable = (refl, refl)
