-- Shut out: "refusing everything", for the alternatives as lines: those of 01 A, by its text and by its tree, are not
-- refused where there is room for their 33 bytes. What good input is, in general, stands in RefusingAlternatives.
--   alternatives_text, write_alternatives_lem
use Prim.Native.Nat.{ℕ, ◌≤◌}
use native.Mathlib.Omega.{arith}
use mathlib.Core.Path.{◌≡◌, refl, ap}
use mathlib.Core.List.{List}
use lib.ListN.{length}
use Rattle.basics.specs.declared.Refusal.{Refusal}
use Rattle.alf.specs.declared.Rules.{Rules}
use Rattle.basics.specs.Words.{some, all}
use Rattle.alf.specs.States.{reduce}
use Rattle.alf.specs.Names.{slot, until_zero, slot_of}
use Rattle.alf.specs.Bytes.{half_number, edge_number, boolean_bytes, vector_bytes, bytes_of}
use Rattle.alf.specs.Windows as windows
use Rattle.alf.specs.Windows.{digit_asked, letter_asked}
use Rattle.alf.specs.Alternatives.{alternatives, rewritten, each, is_name, halves, literals_at, possible, contradictory}
use Rattle.trees.specs.Brackets.{level_of, bracketed, boolean_depth, vector_depth, depth_of}
use Rattle.grammar.specs.Tokens.{table, kind_in, kind}
use Rattle.grammar.specs.Written.{written}
use Rattle.reader.proofs.Unique.{gives_unique}
use Rattle.writer.specs.Trees.{boolean_tree, vector_tree, tree_of}
use Rattle.spelling.specs.Spelled.{half_byte, pair_spelled, sign_spelled, spelled, following, text_of_lem}
use Rattle.writer.specs.Trees.{text}
use Rattle.basics.specs.Text.{bytes, joined}
use Rattle.figures.specs.Numbers.{digits, width_up_to, width, decimal}
use Rattle.alternative_texts.specs.Texts.{readable, shown, expression_of, test_text, behind, between, step_text}
use Rattle.alternative_texts.specs.Texts.{alternative_text}
use Rattle.alternative_lines.specs.Listing.{note, line_of, line, lines_from, listing}
use Rattle.alternative_listings.specs.Calls.{listing_at, WritesAlternatives}
use Rattle.row_listings.proofs.TextListings.{vector_one}
use Rattle.alternative_listings.specs.AlternativesText.{RewritesText}
use Rattle.shut_out.specs.Asked.{asked, letters, rises}
use Rattle.shut_out.proofs.RefusingAlternatives as showing
use Rattle.shut_out.proofs.OnT.{rises_accepted, rises_meant, rises_is, letters_good, letters_count}
use Rattle.shut_out.proofs.EveryJob.{rises_gives, rises_readable}

lines_are : listing letters (alternatives rises) ≡ bytes "number\tnote\talternative\n1\t-\t01 A\n"
unfolding
    listing lines_from line line_of note alternative_text step_text between behind test_text expression_of shown readable
    bytes joined decimal width width_up_to digits text text_of_lem following spelled sign_spelled pair_spelled half_byte
    written tree_of vector_tree boolean_tree kind kind_in table until_zero slot slot_of bytes_of vector_bytes boolean_bytes
    edge_number half_number depth_of vector_depth boolean_depth bracketed level_of alternatives rewritten each
    contradictory possible literals_at halves is_name some all windows.asked digit_asked letter_asked reduce
lines_are = refl

lines_length : length (listing letters (alternatives rises)) ≡ 33
unfolding bytes
lines_length = ap length lines_are

pub alternatives_text : {ρ : Rules} {out out' : List ℕ} (r : Refusal) → 33 ≤ length out
    → RewritesText ρ letters (bytes "01 A") out out' (showing.no_lines r) → ⊥
alternatives_text {ρ} {out} {out'} r room w =
    (showing.alternatives_text ρ letters (bytes "01 A") out).no_refusal
    (record {
      readable = rises_readable;
      room = λ p g.
          rw (vector_one p rises (gives_unique g rises_gives), rises_meant ρ) (omega (arith, room, lines_length));
    }) r out' w

same_lines : (ρ : Rules) → listing_at ρ letters (asked rises) ≡ listing letters (alternatives rises)
unfolding listing_at
same_lines ρ = rw (letters_count, rises_is ρ) refl

pub write_alternatives_lem : {ρ : Rules} {out out' : List ℕ} (r : Refusal) → 33 ≤ length out
    → WritesAlternatives ρ letters (asked rises) out out' (showing.no_lines r) → ⊥
write_alternatives_lem {ρ} {out} {out'} r room w =
    (showing.write_alternatives_lem ρ letters (asked rises) out).no_refusal
    (record {
      names_good = letters_good;
      accepted = rw letters_count rises_accepted;
      room = rw (same_lines ρ) (omega (arith, room, lines_length));
    }) r out' w
