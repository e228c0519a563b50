-- One law over what is handed on (specs/Reliable): where a contract's refusals have numbers of the table and leave
-- memory as it was, C may rely on the number. Then the same for each kind of result.
--   reliable    whatever the kind
--   of_outcome, of_expression, of_reading, of_changes, of_answer, of_match, of_counts, of_push
use Rattle.std.specs.Prelude.{Result, Err, Ok}
use Rattle.trace_reader.specs.Reading.{size}
use Prim.Native.Nat.{ℕ, ◌≤◌}
use native.Mathlib.Omega.{arith}
use mathlib.Core.Path.{◌≡◌, refl, sym, ap, subst, ◌∙◌}
use mathlib.Core.Logic.{◌⊎◌, inl, inr}
use mathlib.Core.List.{List}
use Rattle.basics.specs.declared.Refusal.{Refusal}
use Rattle.basics.specs.Refusing.{Outcome}
use Rattle.alf.specs.declared.Rules.{Rules}
use Rattle.alf.specs.declared.Sort.{Sort}
use Rattle.reader.specs.declared.Read.{Read}
use Rattle.basics.specs.Refusing.{refusal}
use Rattle.reader.specs.Reading as texts
use Rattle.trace_reader.specs.Reading.{Reading}
use Rattle.changes.specs.Call.{RowChanges}
use Rattle.row_calls.specs.Written as rows
use Rattle.matching_calls.specs.Matching.{Matching}
use Rattle.matching_calls.specs.Matching.{Counting}
use Rattle.timed_queue.specs.declared.queues.Queue as updates
use Rattle.queue_calls.specs.declared.pushing.Pushing.{Pushing}
use Rattle.telling.specs.declared.Told.{Told}
use Rattle.telling.specs.declared.Trace.{Trace}
use Rattle.telling.specs.declared.Queue.{Queue}
use Rattle.telling.specs.declared.Pushed.{Pushed}
use Rattle.telling.specs.Handing.{Hands, told, told_expression, told_trace, told_changes, told_answer}
use Rattle.telling.specs.Matching.{told_match, told_counts, queue_of_lem, told_push}
use Rattle.demands.specs.Numbers.{Refuses}
use Rattle.dachsmond_laws.specs.Reliable as kinds
use Rattle.dachsmond_laws.specs.Reliable.{Kind, RefusalTold, Reliable, Nothing}

-- a result is this refusal, or its number is 0
abbrev Parts : {A B : Type 0} → Kind A B → A → Type 0
Parts k a = ((f : Refusal) × (a ≡ k.refused f)) ⊎ (k.number (k.tell a) ≡ 0)

module _ {A B : Type 0} (k : Kind A B) (allowed : A → Type 0) (kept : B → Type 0)
    (parts : (a : A) → allowed a → Parts k a)
    (named : (f : Refusal) → k.number (k.tell (k.refused f)) ≡ f.number)
    (table : (f : Refusal) → allowed (k.refused f) → (1 ≤ f.number) × (f.number ≤ 19))
    (keeps : (f : Refusal) → allowed (k.refused f) → kept (k.tell (k.refused f))) where
  refusal_told : {r : B} (h : Hands allowed k.tell r) (f : Refusal) → h.result ≡ k.refused f
      → RefusalTold k allowed r
  refusal_told h f e =
      let a = subst allowed e h.is_allowed in
      let t = h.is_told ∙ ap k.tell e in
      let n = ap k.number t ∙ named f in
      record {
        refusal = f;
        is_allowed = a;
        is_told = t;
        is_number = n;
        from_1 = omega (arith, n, (table f a).0);
        to_19 = omega (arith, n, (table f a).1);
      }

  done_zero : {r : B} (h : Hands allowed k.tell r) → kinds.Done k h.result → k.number r ≡ 0
  done_zero {r} h d = go (parts h.result h.is_allowed)
    where
      go : Parts k h.result → k.number r ≡ 0
      go (inl x) = absurd (d x.0 x.1)
      go (inr z) = ap k.number h.is_told ∙ z

  refused_told : {r : B} → Hands allowed k.tell r → (k.number r ≡ 0 → ⊥) → RefusalTold k allowed r
  refused_told {r} h n = go (parts h.result h.is_allowed)
    where
      go : Parts k h.result → RefusalTold k allowed r
      go (inl x) = refusal_told h x.0 x.1
      go (inr z) = absurd (n (ap k.number h.is_told ∙ z))

  pub reliable : Reliable k allowed kept
  reliable =
      record {
        zero_done = λ h z f e. omega (arith, z, (refusal_told h f e).from_1);
        done_zero = λ h d. done_zero h d;
        refused_told = λ h n. refused_told h n;
        stays = λ h n.
            let t = refused_told h n in subst kept (sym t.is_told) (keeps t.refusal t.is_allowed);
      }

-- A kind each.
outcome_parts : (a : Outcome) → Parts kinds.outcomes a
unfolding told
outcome_parts (Ok n) = inr refl
outcome_parts (Err f) = inl (f, refl)

pub of_outcome : {allowed : Outcome → Type 0} {kept : Told → Type 0} {ns : List ℕ} → Refuses Err allowed ns
    → ((f : Refusal) → allowed (Err f) → kept (told (Err f))) → Reliable kinds.outcomes allowed kept
unfolding told
of_outcome n s = reliable kinds.outcomes _ _ (λ a x. outcome_parts a) (λ f. refl) n.in_table_lem s

pub of_expression : {ρ : Rules} {names text : List ℕ} {sort : Sort} {ns : List ℕ}
    → Refuses Err (texts.ReadsText ρ names text sort) ns
    → Reliable kinds.expressions (texts.ReadsText ρ names text sort) Nothing
unfolding told_expression
of_expression {ρ} {names} {text} {sort} n =
    reliable kinds.expressions _ _ (λ a x. parts x) (λ f. refl) n.in_table_lem (λ f x. tt)
  where
    parts : {a : Result Read Refusal} → texts.ReadsText ρ names text sort a → Parts kinds.expressions a
    parts (texts.refused f h) = inl (f, refl)
    parts (texts.read a g) = inr refl

reading_parts : (a : Reading) → Parts kinds.readings a
unfolding told_trace
reading_parts (Ok s) = inr refl
reading_parts (Err f) = inl (f, refl)

pub of_reading : {allowed : Reading → Type 0} {kept : Trace → Type 0} {ns : List ℕ}
    → Refuses Err allowed ns
    → ((f : Refusal) → allowed (Err f) → kept (told_trace (Err f)))
    → Reliable kinds.readings allowed kept
unfolding told_trace
of_reading n s = reliable kinds.readings _ _ (λ a x. reading_parts a) (λ f. refl) n.in_table_lem s

changes_parts : (a : RowChanges) → Parts kinds.row_changes a
unfolding told_changes
changes_parts (Ok c) = inr refl
changes_parts (Err f) = inl (f, refl)

pub of_changes : {allowed : RowChanges → Type 0} {ns : List ℕ} → Refuses Err allowed ns
    → Reliable kinds.row_changes allowed Nothing
unfolding told_changes
of_changes n = reliable kinds.row_changes _ _ (λ a x. changes_parts a) (λ f. refl) n.in_table_lem (λ f x. tt)

answer_parts : (a : rows.Answering) → Parts kinds.row_answers a
unfolding told_answer
answer_parts (Ok b) = inr refl
answer_parts (Err f) = inl (f, refl)

pub of_answer : {allowed : rows.Answering → Type 0} {ns : List ℕ} → Refuses Err allowed ns
    → Reliable kinds.row_answers allowed Nothing
unfolding told_answer
of_answer n = reliable kinds.row_answers _ _ (λ a x. answer_parts a) (λ f. refl) n.in_table_lem (λ f x. tt)

match_parts : (a : Matching) → Parts kinds.matches a
unfolding told_match
match_parts (Ok m) = inr refl
match_parts (Err f) = inl (f, refl)

pub of_match : {allowed : Matching → Type 0} {ns : List ℕ} → Refuses Err allowed ns
    → Reliable kinds.matches allowed Nothing
unfolding told_match
of_match n = reliable kinds.matches _ _ (λ a x. match_parts a) (λ f. refl) n.in_table_lem (λ f x. tt)

counts_parts : (a : Counting) → Parts kinds.counts a
unfolding told_counts
counts_parts (Ok t) = inr refl
counts_parts (Err f) = inl (f, refl)

pub of_counts : {allowed : Counting → Type 0} {ns : List ℕ} → Refuses Err allowed ns
    → Reliable kinds.counts allowed Nothing
unfolding told_counts
of_counts n = reliable kinds.counts _ _ (λ a x. counts_parts a) (λ f. refl) n.in_table_lem (λ f x. tt)

-- a push is refused with the queue that was handed in
module _ (q : Queue) (allowed : Matching → updates.Queue → Type 0) where
  push_parts : ((f : Refusal) (s : updates.Queue) → allowed (Err f) s → s ≡ queue_of_lem q)
      → (m : Matching) (s : updates.Queue) → allowed m s
      → Parts (kinds.pushes q) (record { told = m; queue = s })
  unfolding told_push told_match
  push_parts same (Ok m) s x = inr refl
  push_parts same (Err f) s x =
      inl (f, λ i. record { told = Err f; queue = same f s x i })

  pub of_push : {ns : List ℕ} → Refuses Err (λ m. allowed m (queue_of_lem q)) ns
      → ((f : Refusal) (s : updates.Queue) → allowed (Err f) s → s ≡ queue_of_lem q)
      → Reliable (kinds.pushes q) (λ (p : Pushing). allowed p.told p.queue) (λ (r : Pushed). r.queue ≡ q)
  unfolding told_push told_match queue_of_lem
  of_push n same =
      reliable (kinds.pushes q) _ _ (λ a x. push_parts same a.told a.queue x) (λ f. refl) n.in_table_lem
      (λ f x. refl)
