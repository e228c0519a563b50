-- Shut out: "refusing everything", and totals and sums that are others, for the calls that go from a text to what is
-- asked of it. Each has input, on table T, for which its contract allows no refusal. What good input is, in general,
-- stands in RefusingJobs. The alternatives as lines stand in EveryAlternatives.
--   rises_gives, rises_readable                                     the text 01 A gives the pattern 01 A
--   count_text_lem, table_line, list_text, values_text, list_values_lem     on T, where there is room
--   correct_letters, letters_change_nothing                         a row of T, by good letters; its states are stored
--   invented_total_of_text, one_total_for_all                       no totals of 01 A but 1, 3, 1; ?! B has others
--   other_sums                                                      no sums but those over a table's patterns
use Rattle.std.specs.Prelude.{Err, Ok}
use Rattle.std.specs.Prelude.{Some}
use Prim.Native.Nat.{ℕ, ◌<◌, ◌≤◌}
use native.Mathlib.Omega.{arith}
use mathlib.Core.Path.{◌≡◌, refl, sym, ap, ◌∙◌}
use mathlib.Core.List.{List, map}
use lib.ListN.{length, get_or}
use Rattle.basics.specs.declared.Refusal.{Refusal}
use Rattle.alf.specs.declared.Rules.{Rules}
use Rattle.alf.specs.Names.{names_in}
use Rattle.alf.specs.declared.Sort.TheVariants as sort
use Rattle.basics.specs.Refusing.{Outcome}
use Rattle.basics.specs.Words.{greatest, greatest_of, count, sum_of, listed}
use Rattle.alf.specs.States.{among, reduce}
use Rattle.alf.specs.Names.{slot, until_zero, slot_of}
use Rattle.alf.specs.Expressions.{Vector, edge, changes, boolean, vector}
use Rattle.alf.specs.Expressions.{Over, HalfKnown, EdgeKnown, VectorOver, ExpressionOver}
use Rattle.alf.specs.Values.{value, recorded_or, state, state_at}
use Rattle.alf.specs.Bytes.{half_number, edge_number, boolean_bytes, vector_bytes, bytes_of}
use Rattle.alf.specs.Windows.{digit_asked, letter_asked, edge_on, answer, best, numbered, row_answer}
use Rattle.alf.specs.Windows as windows
use Rattle.alf.specs.Alternatives.{alternatives, rewritten, each, over_limit, tests}
use Rattle.alf.specs.Steady.{meant}
use Rattle.alf.specs.Traces.{total, corrected}
use Rattle.alf.specs.TableT.{names, rows, times, states, A, B}
use Rattle.steady_laws.specs.Lone.{lone}
use Rattle.steady_laws.proofs.Meant.{meant_lone}
use Rattle.trees.specs.Brackets.{level_of, bracketed, boolean_depth, vector_depth, depth_of}
use Rattle.acceptance.specs.Accepted.{sort_of_lem, over_size}
use Rattle.grammar.specs.Written.{written}
use Rattle.reader.specs.Reading.{Gives}
use Rattle.reader.proofs.Unique.{gives_unique}
use Rattle.writer.specs.Trees.{boolean_tree, vector_tree, tree_of}
use Rattle.spelling.specs.Spelled.{half_byte, pair_spelled, prefixes, sign_spelled, spelled, following, text_of_lem}
use Rattle.writer.specs.Trees.{text}
use Rattle.writer.specs.Writing.{Named}
use Rattle.text_laws.proofs.WrittenGives.{text_gives}
use Rattle.matcher.specs.declared.tables.Total.{Total}
use Rattle.states.specs.FirstBadCode.{Codes}
use Rattle.matching_calls.specs.Matching.{Counting}
use Rattle.basics.specs.Memory.{after}
use Rattle.table_lines.specs.declared.lines.Sums.{Sums}
use Rattle.basics.specs.Text.{bytes, joined}
use Rattle.figures.specs.Numbers.{digits, width_up_to, width, decimal}
use Rattle.listing.specs.Listing.{letter, word_of, line, lines, values_listing}
use Rattle.column_listings.specs.Calls.{ValuesText}
use Rattle.table_lines.proofs.TableExamples.{case_1_line}
use Rattle.tree_listings.specs.TreeTexts.{pattern_listing}
use Rattle.row_listings.specs.Listings.{ListsPattern, ListsValues}
use Rattle.expression_listings.specs.TreeListings.{value_listing}
use Rattle.row_listings.proofs.TextListings.{vector_one, boolean_one}
use Rattle.tree_listings.proofs.Examples.{case_1}
use Rattle.jobs.specs.Counting.{CountsIn, CountsText}
use Rattle.jobs.specs.Lines.{line_of, TableLine}
use Rattle.jobs.specs.Sums.{no_sums, added_all, sums_of}
use Rattle.state_letters.specs.Letters.{state_of}
use Rattle.letter_corrections.specs.Correcting.{CorrectsLetters}
use Rattle.jobs.proofs.SumLaws.{sums_exact}
use Rattle.shut_out.specs.Asked.{letters, rises}
use Rattle.shut_out.proofs.Refusing as texts
use Rattle.shut_out.proofs.RefusingTexts.{Readable}
use Rattle.shut_out.proofs.RefusingRows.{GoodTrace}
use Rattle.shut_out.proofs.RefusingJobs as jobs
use Rattle.shut_out.proofs.OnT.{trace_good, rises_meant, letters_good, letters_count, below, codes_below}
use Rattle.shut_out.proofs.Counting.{total_yes, total_no, total_unknown}

abbrev flips : Vector
flips = edge changes B

-- What the texts give: 01 A, ?! B, A.
letters_named : Named letters
letters_named = record { passed = texts.names_pass letters letters_good }

pub rises_gives : {ρ : Rules} → Gives ρ letters (bytes "01 A") sort.Vector (vector rises)
unfolding
    text text_of_lem following spelled sign_spelled pair_spelled half_byte tree_of vector_tree boolean_tree written
    edge_number half_number boolean_bytes vector_bytes bytes_of slot_of slot until_zero bytes sort_of_lem over_size over_limit
    alternatives rewritten each tests greatest_of sum_of level_of bracketed boolean_depth vector_depth depth_of
    ExpressionOver VectorOver Over EdgeKnown HalfKnown
rises_gives {ρ} =
    text_gives letters_named (vector rises) ((omega arith, omega arith), omega arith) ρ (omega arith) (omega arith)
    (ap (λ (p : Vector). over_limit (alternatives p)) (rises_meant ρ))

flips_meant : (ρ : Rules) → meant ρ flips ≡ flips
unfolding lone
flips_meant ρ = meant_lone ρ flips refl

flips_gives : {ρ : Rules} → Gives ρ letters (bytes "?! B") sort.Vector (vector flips)
unfolding
    text text_of_lem following spelled sign_spelled prefixes half_byte tree_of vector_tree boolean_tree written
    edge_number half_number boolean_bytes vector_bytes bytes_of slot_of slot until_zero bytes sort_of_lem over_size over_limit
    alternatives rewritten each tests greatest_of sum_of level_of bracketed boolean_depth vector_depth depth_of
    ExpressionOver VectorOver Over EdgeKnown
flips_gives {ρ} =
    text_gives letters_named (vector flips) (tt, omega arith) ρ (omega arith) (omega arith)
    (ap (λ (p : Vector). over_limit (alternatives p)) (flips_meant ρ))

A_gives : {ρ : Rules} → Gives ρ letters (bytes "A") sort.Boolean (boolean A)
unfolding
    text text_of_lem following spelled sign_spelled pair_spelled half_byte tree_of vector_tree boolean_tree written
    boolean_bytes bytes_of slot_of slot until_zero bytes sort_of_lem over_size boolean_depth depth_of ExpressionOver Over
A_gives {ρ} = text_gives letters_named (boolean A) (omega arith) ρ (omega arith) (omega arith) refl

pub rises_readable : {ρ : Rules} → Readable ρ letters (bytes "01 A") sort.Vector
unfolding bytes
rises_readable =
    record { names_good = letters_good; short = omega arith; expression = vector rises; given = rises_gives }

A_readable : {ρ : Rules} → Readable ρ letters (bytes "A") sort.Boolean
unfolding bytes
A_readable = record { names_good = letters_good; short = omega arith; expression = boolean A; given = A_gives }

T_good : GoodTrace (names_in letters) rows states
T_good = rw letters_count trace_good

-- Totals, and the line with them.
countable : {ρ : Rules} → jobs.Countable ρ letters rows states (bytes "01 A")
countable = record { readable = rises_readable; trace = T_good }

pub count_text_lem : {ρ : Rules} (r : Refusal) → CountsText ρ letters rows states (bytes "01 A") (Err r) → ⊥
count_text_lem {ρ} r w = (jobs.count_text_lem ρ letters rows states (bytes "01 A")).no_refusal countable r tt w

pub invented_total_of_text : {ρ : Rules} (t : Total)
    → CountsText ρ letters rows states (bytes "01 A") (Ok t)
    → (t.yes ≡ 1) × (t.no ≡ 3) × (t.unknown ≡ 1)
unfolding CountsIn
invented_total_of_text {ρ} t w =
    let c = w.comes.1 in
    let e = vector_one c.pattern rises (gives_unique c.given rises_gives) in
    let s = rw (e, rises_meant ρ, letters_count) at c.totals in
    (s.yeses ∙ total_yes _, s.noes ∙ total_no _, s.unknowns ∙ total_unknown _)

flips_yes : (ρ : Rules) → total (state_at ρ names states) flips rows 1 ≡ 3
unfolding total count states row_answer numbered best answer greatest value recorded_or state edge_on windows.asked
    digit_asked letter_asked reduce
flips_yes ρ = refl

pub one_total_for_all : {ρ : Rules} (t : Total) → CountsText ρ letters rows states (bytes "01 A") (Ok t)
    → CountsText ρ letters rows states (bytes "?! B") (Ok t) → ⊥
unfolding CountsIn
one_total_for_all {ρ} t v w =
    let c = w.comes.1 in
    let e = vector_one c.pattern flips (gives_unique c.given flips_gives) in
    let s = rw (e, flips_meant ρ, letters_count) at c.totals in
    omega (arith, (invented_total_of_text t v).0, s.yeses, flips_yes ρ)

counted_so : {ρ : Rules} (c : Counting) → CountsText ρ letters rows states (bytes "01 A") c
    → c ≡ Ok (record { yes = 1; no = 3; unknown = 1 })
counted_so (Ok t) w =
    let e = invented_total_of_text t w in
    λ i. Ok (record { yes = e.0 i; no = e.1 i; unknown = e.2 i })
counted_so (Err r) w = absurd (count_text_lem r w)

line_length : length (line_of (bytes "01 A") rows (Ok (record { yes = 1; no = 3; unknown = 1 }))) ≡ 20
unfolding line_of bytes
line_length = ap length case_1_line

-- the line of these totals is written: 20 bytes
pub table_line : {ρ : Rules} {out out' : List ℕ} {c : Counting} (r : Refusal) → 20 ≤ length out
    → TableLine ρ letters rows states (bytes "01 A") out out' (record { counted = c; written = Err r })
    → ⊥
table_line {ρ} {out} {out'} {c} r room w =
    (jobs.table_line ρ letters rows states (bytes "01 A") out c).no_refusal
    (rw (counted_so c w.counts) (omega (arith, room, line_length))) r out' w

-- Sums: none but those of the table's patterns.
pub other_sums : (n : ℕ) (cs : List Counting) (s : Sums) → added_all (Some (no_sums n)) cs ≡ Some s
    → (s ≡ sums_of n cs → ⊥) → ⊥
other_sums n cs s e differ = differ (sums_exact n cs s e)

-- Listings: of 01 A, of A, of any values.
answers_length : (ρ : Rules) → length (pattern_listing ρ (names_in letters) times states rises) ≡ 76
unfolding bytes
answers_length ρ = rw letters_count (ap length (case_1 _))

pub list_text : (ρ : Rules) {out out' : List ℕ} (r : Refusal) → 76 ≤ length out
    → ListsPattern ρ letters times states (bytes "01 A") out out' (Err r) → ⊥
unfolding times
list_text ρ {out} {out'} r room w =
    (jobs.list_text letters times states (bytes "01 A") out ρ).no_refusal
    (record {
      readable = rises_readable;
      trace = T_good;
      room = λ p g.
          rw (vector_one p rises (gives_unique g rises_gives), rises_meant ρ) (omega (arith, room, answers_length ρ));
    }) r out' w

values_length : (ρ : Rules) → length (value_listing ρ names times states A) ≡ 40
unfolding
    value_listing values_listing lines line word_of letter bytes joined decimal width width_up_to digits times states listed
    reduce value
values_length ρ = refl

pub values_text : (ρ : Rules) {out out' : List ℕ} (r : Refusal) → 40 ≤ length out
    → ListsValues ρ letters times states (bytes "A") out out' (Err r) → ⊥
unfolding times
values_text ρ {out} {out'} r room w =
    (jobs.values_text letters times states (bytes "A") out ρ).no_refusal
    (record {
      readable = A_readable;
      trace = T_good;
      room = λ p g.
          rw (boolean_one p A (gives_unique g A_gives), letters_count) (omega (arith, room, values_length ρ));
    }) r out' w

pub list_values_lem : {values out out' : List ℕ} (r : Refusal) → length values ≡ rows
    → ((i : ℕ) → i < length values → get_or values i 0 ≤ 7)
    → length (values_listing times values) ≤ length out
    → ValuesText times values out out' (Err r) → ⊥
unfolding times
list_values_lem {values} {out} {out'} r a k room w =
    (texts.list_values_lem out times values).no_refusal
    (record { lists = record { rows = (omega arith, omega arith); same = a }; known = k; room = room }) r out' w

-- A row of T, corrected by three letters that are states' letters.
pub correct_letters : {new states' : List ℕ} {i : ℕ} (r : Refusal) → length new ≡ names
    → Codes (map state_of new) → i < rows
    → CorrectsLetters names rows states i new states' (Err r) → ⊥
correct_letters {new} {states'} {i} r f c l w =
    (jobs.correct_letters names rows states i new).no_refusal
    (record { trace = trace_good; full = f; known = c; there = l }) r states' w

-- case 12's row, X01, corrected by the letters 001: the trace does not stay as it is
zeros_codes : Codes (map state_of (bytes "001"))
unfolding state_of among bytes below
zeros_codes = codes_below (map state_of (bytes "001")) refl

pub letters_change_nothing : {states' : List ℕ} (o : Outcome)
    → CorrectsLetters names rows states 3 (bytes "001") states' o → states' ≡ states → ⊥
unfolding after corrected state_of among bytes states
letters_change_nothing (Ok m) w e =
    let z = ap (λ (l : List ℕ). get_or l 9 0) (sym e ∙ w.memory) in omega (arith, z)
letters_change_nothing (Err r) w e = correct_letters r refl zeros_codes (omega arith) w
