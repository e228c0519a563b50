-- Shut out, of texts and files: "Expression and trace survive writing and reading"; "only needed brackets"; "Memory
-- past an output stays", refused ones too.
--   brackets_more         a written text with one more pair of brackets around it, whatever the tree
--   brackets_more_on_T    01 A written as ( 01 A )
--   rows_swapped          a file of two rows that differ, read with the rows swapped
--   wrote_and_refused, ..-match, ..-correct, ..-read, ..-list       a refusal that has written something
use Rattle.std.specs.Prelude.{Err, Ok}
use Prim.Native.Nat.{ℕ, ◌+◌, ◌*◌, ◌<◌, ◌≤◌}
use native.Mathlib.Omega.{arith}
use mathlib.Core.Path.{◌≡◌, sym, ap, ◌∙◌}
use mathlib.Core.List.{List, [], ◌∷◌, ◌++◌}
use lib.ListN.{length, get_or, take, drop, length-append, length-take, get_or-append}
use Rattle.alf.specs.Values.{old_rules_lem}
use Rattle.alf.specs.declared.Rules.{Rules}
use Rattle.alf.specs.Names.{names_in}
use Rattle.basics.specs.declared.Refusal.{Refusal}
use Rattle.alf.specs.declared.Sort.{Sort}
use Rattle.alf.specs.declared.Sort.TheVariants as sort
use Rattle.alf.specs.Refusals.{Comes}
use Rattle.writer.specs.Writing as writing
use Rattle.trace_reader.specs.Reading.{Reading}
use Rattle.trace_format.specs.Format.{Trace, file_of}
use Rattle.trace_reader.specs.Reading.{Reads}
use Rattle.trace_laws.proofs.RoundTrips.{read_write}
use Rattle.rewriting_calls.specs.Calls.{Rewrites}
use Rattle.timed_queue.specs.declared.queues.Queue.{Queue}
use Rattle.matching_calls.specs.Matching.{AllMatched}
use Rattle.queue_calls.specs.Pushing.{Push}
use Rattle.update_calls.specs.Correcting.{Correction}
use Rattle.tree_listings.specs.TreeTexts.{ListsTree}
use Rattle.demands.proofs.Demand1.{demand_1}
use Rattle.alf.specs.TableT as T
use Rattle.shut_out.specs.Asked.{letters}
use Rattle.shut_out.proofs.Reasons.{Two, Three, Four}
use Rattle.shut_out.proofs.OnT.{trace_T, letters_length, letters_count}

-- "only needed brackets": the text stands at the buffer's front, and has its own length
bracketed : List ℕ → List ℕ
bracketed t = 40 ∷ 32 ∷ (t ++ (32 ∷ 41 ∷ []))

bracketed_length : (t : List ℕ) → length (bracketed t) ≡ length t + 4
unfolding bracketed
bracketed_length t = rw length-append (omega arith)

take_short : (n : ℕ) (l : List ℕ) → length (take n l) ≤ n
take_short n l = rw length-take (omega arith)

module _ {names tree : List ℕ} {sort : Sort} {out out' : List ℕ} {m : ℕ} where
  pub brackets_more : writing.Writes names tree sort out out' (Ok m)
      → take m out' ≡ 40 ∷ 32 ∷ (writing.text_at names tree ++ (32 ∷ 41 ∷ [])) → ⊥
  unfolding Comes bracketed
  brackets_more w e =
      let a = ap length e ∙ bracketed_length (writing.text_at names tree) in
      omega (arith, a, take_short m out', w.outcome.1)

-- a file read with one state, or one time, other than the trace's: rows swapped, say
module _ {names times states : List ℕ} {n : ℕ} (t : Trace names times states n) (n₀ t₀ s₀ : List ℕ) (m : Three)
    (r : Reading) (a : length names ≤ length n₀) (b : n ≤ length t₀) (c : n * names_in names ≤ length s₀)
    (w : Reads (file_of names times states n) n₀ t₀ s₀ m.0 m.1 m.2 r) where
  pub other_state : (i : ℕ) → i < length states → (get_or m.2 i 0 ≡ get_or states i 0 → ⊥) → ⊥
  other_state i l differ =
      differ
      (ap (λ (x : List ℕ). get_or x i 0) (read_write t n₀ t₀ s₀ r a b c w).states_now
      ∙ get_or-append states (drop (length states) s₀) 0 i l)

  pub other_time : (i : ℕ) → i < length times → (get_or m.1 i 0 ≡ get_or times i 0 → ⊥) → ⊥
  other_time i l differ =
      differ
      (ap (λ (x : List ℕ). get_or x i 0) (read_write t n₀ t₀ s₀ r a b c w).times_now
      ∙ get_or-append times (drop (length times) t₀) 0 i l)

-- rows 0 and 1 of T swapped
pub rows_swapped : (n₀ t₀ s₀ : List ℕ) (m : Three) (r : Reading)
    → 96 ≤ length n₀ → 6 ≤ length t₀ → 18 ≤ length s₀
    → Reads (file_of letters T.times T.states T.rows) n₀ t₀ s₀ m.0 m.1 m.2 r
    → m.2 ≡ (1 ∷ 1 ∷ 1 ∷ 0 ∷ 1 ∷ 1 ∷ drop 6 T.states) ++ drop 18 s₀ → ⊥
unfolding T.states
rows_swapped n₀ t₀ s₀ m r a b c w e =
    other_state trace_T n₀ t₀ s₀ m r (omega (arith, a, letters_length)) b
    (omega (arith, c, ap (λ (k : ℕ). 6 * k) letters_count)) w 0 (omega arith)
    (λ same. let z = sym same ∙ ap (λ (x : List ℕ). get_or x 0 0) e in omega (arith, z))

-- a refusal that has written something
module _ {names tree : List ℕ} {sort : Sort} {out out' : List ℕ} {e : Refusal} where
  pub wrote_and_refused : writing.Writes names tree sort out out' (Err e) → (out' ≡ out → ⊥) → ⊥
  wrote_and_refused w differ = differ (((demand_1 {ρ = old_rules_lem}).write_expression_lem names tree sort out).stays e out' w)

pub matched_and_refused : (ρ : Rules) (k n : ℕ) (tree times codes answers tried given began : List ℕ) (m : Four)
    (e : Refusal)
    → AllMatched ρ k n tree times codes answers tried given began m.0 m.1 m.2 m.3 (Err e)
    → (m ≡ (answers, tried, given, began) → ⊥) → ⊥
matched_and_refused ρ k n tree times codes answers tried given began m e w differ =
    differ (((demand_1 {ρ = ρ}).match_all k n tree times codes answers tried given began).stays e m w)

pub corrected_and_refused : {ρ : Rules} {k n : ℕ} {tree codes answers : List ℕ} {row : ℕ}
    {new codes' answers' : List ℕ} {e : Refusal}
    → Correction ρ k n tree codes answers row new codes' answers' (Err e)
    → ((codes' ≡ codes) × (answers' ≡ answers) → ⊥) → ⊥
corrected_and_refused {ρ} {k} {n} {tree} {codes} {answers} {row} {new} {codes'} {answers'} {e} w differ =
    let s = ((demand_1 {ρ = ρ}).correct k n tree codes answers row new).stays e (codes', answers') w in
    differ (ap (λ (p : Two). p.0) s, ap (λ (p : Two). p.1) s)

pub read_and_refused : (bytes n₀ t₀ s₀ : List ℕ) (m : Three) (e : Refusal)
    → Reads bytes n₀ t₀ s₀ m.0 m.1 m.2 (Err e) → (m ≡ (n₀, t₀, s₀) → ⊥) → ⊥
read_and_refused bytes n₀ t₀ s₀ m e w differ = differ (((demand_1 {ρ = old_rules_lem}).read_trace bytes n₀ t₀ s₀).stays e m w)

pub listed_and_refused : {ρ : Rules} {k n : ℕ} {tree times states out out' : List ℕ} {e : Refusal}
    → ListsTree ρ k n tree times states out out' (Err e) → (out' ≡ out → ⊥) → ⊥
listed_and_refused {ρ} {k} {n} {tree} {times} {states} {out} {out'} {e} w differ =
    differ (((demand_1 {ρ = ρ}).list k n tree states times out).stays e out' w)

pub rewrote_and_refused : {ρ : Rules} {k : ℕ} {tree s t e o s' t' e' o' : List ℕ} {r : Refusal}
    → Rewrites ρ k tree s t e o s' t' e' o' (Err r)
    → ((s' ≡ s) × (t' ≡ t) × (e' ≡ e) × (o' ≡ o) → ⊥) → ⊥
rewrote_and_refused {ρ} {k} {tree} {s} {t} {e} {o} {s'} {t'} {e'} {o'} {r} w differ =
    let p = ((demand_1 {ρ = ρ}).rewrite k tree s t e o).stays r (s', t', e', o') w in
    differ (
      ap (λ (x : Four). x.0) p,
      ap (λ (x : Four). x.1) p,
      ap (λ (x : Four). x.2) p,
      ap (λ (x : Four). x.3) p,
    )

pub pushed_and_refused : {ρ : Rules} {k : ℕ} {tree : List ℕ} {queue : Queue} {time : ℕ} {row : List ℕ} {queue' : Queue}
    {e : Refusal}
    → Push ρ k tree queue time row (Err e) queue' → (queue' ≡ queue → ⊥) → ⊥
pushed_and_refused {ρ} {k} {tree} {queue} {time} {row} {queue'} {e} w differ =
    differ (((demand_1 {ρ = ρ}).push k tree queue time row).stays e queue' w)
