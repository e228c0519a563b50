-- Shut out: "refusing everything". Each public call over texts and files has input, on table T, for which its contract
-- allows no refusal: so no program meets the contract that refuses all. What good input is, in general, stands in
-- Refusing and RefusingTexts. The other calls stand in EveryCall and EveryList.
use Rattle.std.specs.Prelude.{Err, Ok}
use Prim.Native.Nat.{ℕ, ◌-◌, ◌*◌, ◌<◌, ◌≤◌}
use native.Mathlib.Omega.{arith}
use mathlib.Core.Path.{◌≡◌, refl, ap}
use mathlib.Core.List.{List}
use lib.ListN.{length, take}
use Rattle.basics.specs.Refusing.{refusal}
use Rattle.basics.specs.declared.Refusal.{Refusal}
use Rattle.alf.specs.declared.Rules.{Rules}
use Rattle.alf.specs.declared.Sort.TheVariants as sort
use Rattle.alf.specs.Names.{names_in, slot, until_zero, slot_of}
use Rattle.alf.specs.Bytes.{half_number, edge_number, boolean_bytes, vector_bytes, bytes_of}
use Rattle.alf.specs.Decoder.{half_at, edge_at, leaf_at, one_at, operation_at}
use Rattle.alf.specs.Decoder.{is_boolean, top_boolean, under, if_so, run, stack_at}
use Rattle.alf.specs.Refusals.{Comes}
use Rattle.alf.specs.TableT.{names, rows, times, states, A}
use Rattle.names.specs.Check.{names_order}
use Rattle.trees.specs.Parts.{top}
use Rattle.acceptance.specs.Accepted.{Accepted}
use Rattle.grammar.specs.Written.{written}
use Rattle.reader.specs.Reading.{ReadsText}
use Rattle.writer.specs.Trees.{boolean_tree, vector_tree, tree_of}
use Rattle.spelling.specs.Spelled.{half_byte, pair_spelled, sign_spelled, spelled, following, text_of_lem}
use Rattle.writer.specs.Trees.{text}
use Rattle.writer.specs.Writing.{text_at, Writes}
use Rattle.text_laws.proofs.WrittenGives.{written_gives}
use Rattle.trace_format.specs.Format.{file_of}
use Rattle.trace_reader.specs.Reading.{Reads}
use Rattle.trace_writer.specs.Writing as files
use Rattle.changes.specs.Call as changes
use Rattle.matching_calls.specs.Matching.{expression}
use Rattle.basics.specs.Text.{bytes}
use Rattle.shut_out.specs.Asked.{asked, letters, rises}
use Rattle.shut_out.proofs.Reasons.{Three}
use Rattle.shut_out.proofs.Writing.{brackets_more}
use Rattle.shut_out.proofs.Refusing as texts
use Rattle.shut_out.proofs.RefusingTexts as reading
use Rattle.shut_out.proofs.RefusingRows as over_rows
use Rattle.shut_out.proofs.OnT.{trace_good, rises_accepted, letters_good, letters_count, letters_length}
use Rattle.shut_out.proofs.OnT.{trace_T}

-- Texts: the text of 01 A.
pub text_is : text_at letters (asked rises) ≡ bytes "01 A"
unfolding
    text_at text text_of_lem following spelled sign_spelled pair_spelled half_byte tree_of vector_tree boolean_tree written
    edge_number half_number boolean_bytes vector_bytes bytes_of half_at edge_at leaf_at one_at operation_at is_boolean top_boolean
    under if_so run stack_at top slot_of slot until_zero bytes
text_is = refl

rises_counted : {ρ : Rules} → Accepted ρ (names_in letters) sort.Vector (asked rises)
rises_counted = rw letters_count rises_accepted

text_short : length (text_at letters (asked rises)) ≡ 4
unfolding bytes
text_short = ap length text_is

pub check_names_lem : (r : Refusal)
    → Comes (names_order letters) (λ k. k ≡ names_in letters) (Err r) → ⊥
check_names_lem r w = (texts.check_names_lem letters).no_refusal letters_good r tt w

pub read_expression_lem : {ρ : Rules} (r : Refusal) → ReadsText ρ letters (bytes "01 A") sort.Vector (Err r) → ⊥
read_expression_lem {ρ} r w =
    (reading.read_expression_lem ρ letters (text_at letters (asked rises)) sort.Vector).no_refusal
    (record {
      names_good = letters_good;
      short = omega (arith, text_short);
      expression = _;
      given = written_gives (record { passed = texts.names_pass letters letters_good }) rises_counted;
    }) r tt (rw text_is w)

pub write_expression_lem : {out out' : List ℕ} (r : Refusal) → 4 ≤ length out
    → Writes letters (asked rises) sort.Vector out out' (Err r) → ⊥
write_expression_lem {out} {out'} r room w =
    (texts.write_expression_lem letters (asked rises) sort.Vector out).no_refusal
    (record {
      names_good = letters_good;
      accepted = rises_counted;
      short = omega (arith, text_short);
      room = omega (arith, text_short, room);
    }) r out' w

-- and it is not written with a pair of brackets more
pub brackets_more_on_T : {out out' : List ℕ} {m : ℕ}
    → Writes letters (asked rises) sort.Vector out out' (Ok m) → take m out' ≡ bytes "( 01 A )" → ⊥
unfolding bytes
brackets_more_on_T w e = brackets_more w (rw text_is e)

-- Trace files: T's.
pub read_trace : (n₀ t₀ s₀ : List ℕ) (r : Refusal) (m : Three) → 96 ≤ length n₀ → 6 ≤ length t₀ → 18 ≤ length s₀
    → Reads (file_of letters times states rows) n₀ t₀ s₀ m.0 m.1 m.2 (Err r) → ⊥
read_trace n₀ t₀ s₀ r m a b c w =
    reading.file_not_refused trace_T n₀ t₀ s₀ (omega (arith, a, letters_length)) b
    (omega (arith, c, ap (λ (k : ℕ). 6 * k) letters_count)) r m w

pub write_trace : {out out' : List ℕ} (r : Refusal) → length (file_of letters times states rows) ≤ length out
    → files.Writes letters times states rows out out' (Err r) → ⊥
write_trace {out} {out'} r room w =
    (texts.write_trace letters times states rows out).no_refusal (record { trace = trace_T; room = room }) r out' w

pub changes_at : (i : ℕ) → i < rows → (r : Refusal) → changes.RowChanged names rows states i (Err r) → ⊥
changes_at i l r w = (over_rows.changes_at names rows states i).no_refusal (trace_good, l) r tt w
