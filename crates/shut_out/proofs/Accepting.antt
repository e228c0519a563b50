-- Shut out: accepting what a row of the table shuts out, at its edge, and giving another number than the first
-- one's.
--   names_33, rows_65536     33 names, 65,536 rows: refused with 18 at 0, whatever else is handed in
--   row_n                    row n of n good rows: 19 at 0
--   code_8                   the first code above 7: 15 at its place, though the row number is bad too
--   new_code_8               a code above 7 of a correction's new row: 15 at its own place, before 19
--   new_row_short            a new row of another length: 18
--   queue_over_K             a queue that keeps more than K rows: 10
--   short_tried              a list of tries of another length: 18
--   text_4097                a text of 4,097 bytes: 1 at 4,096
-- Of any call, number and place are `no_other` of Refusing, RefusingRows, RefusingUpdates, RefusingLists,
-- RefusingTexts.
use Rattle.std.specs.Prelude.{Result, Err}
use Prim.Native.Nat.{ℕ, ◌<◌, ◌≤◌}
use native.Mathlib.Omega.{arith}
use mathlib.Core.Path.{◌≡◌, refl}
use mathlib.Core.Logic.{inl, inr}
use mathlib.Core.List.{List, ◌++◌}
use lib.ListN.{length}
use Rattle.alf.specs.declared.Rules.{Rules}
use Rattle.alf.specs.declared.Sort.{Sort}
use Rattle.alf.specs.declared.Sort.TheVariants.{Vector}
use Rattle.basics.specs.Refusing.{Outcome}
use Rattle.alf.specs.Alternatives.{steps_of}
use Rattle.alf.specs.Refusals.{early_row, Rising, RefusedWith, bad_code}
use Rattle.acceptance.specs.Accepted.{Accepted}
use Rattle.alf.proofs.Orders.{plainly, refused_then}
use Rattle.alf.specs.States.{among}
use Rattle.tokens.specs.Extents.{other}
use Rattle.names.specs.Check.{names_order}
use Rattle.tokens.specs.Texts.{order}
use Rattle.basics.specs.declared.Refusal.{Refusal}
use Rattle.reader.specs.declared.Read.{Read}
use Rattle.reader.specs.Reads.{refused_with}
use Rattle.reader.specs.Reading.{tree_order, ReadsText}
use Rattle.timed_queue.specs.declared.queues.Queue.{Queue}
use Rattle.matching_calls.specs.Matching.{Matching}
use Rattle.matching_calls.specs.Matching.{expression, RowMatch, AllMatched}
use Rattle.update_calls.specs.Correcting.{Correction}
use Rattle.queue_calls.specs.Pushing.{RowFits, Handed, Early, Push}
use Rattle.timed_queue.specs.TimedQueues.{held_times}
use Rattle.states.specs.FirstBadCode.{Codes}
use Rattle.judging.specs.Orders.{Rows}
use Rattle.call_laws.proofs.Passing.{codes_never, times_never}
use Rattle.basics.specs.Refusing.{refusal}
use Rattle.shut_out.proofs.Refusing.{GoodNames, names_pass}
use Rattle.shut_out.proofs.RefusingTexts.{read_expression_lem}
use Rattle.shut_out.proofs.RefusingRows.{GoodTrace, GoodTimes, match_row_lem, match_all}
use Rattle.shut_out.proofs.RefusingUpdates.{correct, push}

module _ {ρ : Rules} {k n : ℕ} {tree times codes : List ℕ} {row : ℕ} (x : Matching)
    (w : RowMatch ρ k n tree times codes row x) where
  pub names_33 : 32 < k → x ≡ Err (refusal 18 0)
  unfolding RefusedWith
  names_33 h =
      ((match_row_lem k n tree codes row times).no_other (refusal 18 0)
      (plainly _ 18 0 (inl (refl, record { given = λ l. omega (arith, h, l.1.name_count_lem.1); there = refl }))) x tt
      w).0

  pub rows_65536 : 65535 < n → x ≡ Err (refusal 18 0)
  unfolding RefusedWith
  rows_65536 h =
      ((match_row_lem k n tree codes row times).no_other (refusal 18 0)
      (plainly _ 18 0 (inl (refl, record { given = λ l. omega (arith, h, l.1.row_count.1); there = refl }))) x tt w
      ).0

  module _ (a : Accepted ρ k Vector tree) where
    pub row_n : GoodTrace k n codes → GoodTimes n times → n ≤ row → x ≡ Err (refusal 19 0)
    unfolding RefusedWith
    row_n g s h =
        ((match_row_lem k n tree codes row times).no_other (refusal 19 0)
        (plainly _ 19 0 (inr (
          λ p z. z.given (s.all, g.lists),
          inr (
            λ p z. z.given a,
            inr (
              codes_never codes g.codes,
              inr (times_never times s.rising, inl (refl, record { given = h; there = refl })),
            ),
          ),
        ))) x tt w).0

    -- a row whose time is not above the last row's
    pub time_not_above : {i : ℕ} → GoodTrace k n codes → length times ≡ n → early_row times i
        → x ≡ Err (refusal 13 i)
    unfolding RefusedWith
    time_not_above {i} g s b =
        ((match_row_lem k n tree codes row times).no_other (refusal 13 i)
        (plainly _ 13 i (inr (
          λ p z. z.given (s, g.lists),
          inr (λ p z. z.given a, inr (codes_never codes g.codes, inl (refl, b))),
        ))) x tt w).0

    pub code_8 : {i : ℕ} → length times ≡ n → Rows k n (length codes) → bad_code codes i
        → x ≡ Err (refusal 15 i)
    unfolding RefusedWith
    code_8 {i} s l b =
        ((match_row_lem k n tree codes row times).no_other (refusal 15 i)
        (plainly _ 15 i (inr (λ p z. z.given (s, l), inr (λ p z. z.given a, inl (refl, b))))) x tt w).0

module _ {ρ : Rules} {k n : ℕ} {tree codes answers : List ℕ} {row : ℕ} {new codes' answers' : List ℕ} (o : Outcome)
    (w : Correction ρ k n tree codes answers row new codes' answers' o) where
  pub new_row_short : (length new ≡ k → ⊥) → o ≡ Err (refusal 18 0)
  unfolding RefusedWith
  new_row_short h =
      ((correct ρ k n tree codes answers row new).no_other (refusal 18 0)
      (plainly _ 18 0 (inl (refl, record { given = λ l. h l.full; there = refl }))) o (codes', answers') w).0

  pub new_code_8 : {i : ℕ} → GoodTrace k n codes → Accepted ρ k Vector tree → length answers ≡ n → length new ≡ k
      → bad_code new i → o ≡ Err (refusal 15 i)
  unfolding RefusedWith
  new_code_8 {i} g a room full b =
      ((correct ρ k n tree codes answers row new).no_other (refusal 15 i)
      (plainly _ 15 i (inr (
        λ p z. z.given (record { room = room; full = full; rows = g.lists }),
        inr (λ p z. z.given a, inr (codes_never codes g.codes, inl (refl, b))),
      ))) o (codes', answers') w).0

pub queue_over_K : {ρ : Rules} {k : ℕ} {tree : List ℕ} {queue : Queue} {time : ℕ} {row : List ℕ} {queue' : Queue}
    (x : Matching) → Push ρ k tree queue time row x queue' → RowFits k (length row)
    → steps_of (expression ρ tree k) < queue.rows.kept.0
    → x ≡ Err (refusal 10 0)
unfolding RefusedWith
queue_over_K {ρ} {k} {tree} {queue} {time} {row} {queue'} x w f h =
    ((push ρ k tree queue time row).no_other (refusal 10 0)
    (plainly _ 10 0 (inr (
      λ p z. z.given f,
      inl (refl, record { given = λ g. omega (arith, h, g.kept.kept.few); there = refl }),
    ))) x queue' w).0

-- a queue whose times do not rise; a row whose time is not above the last
module _ {ρ : Rules} {k : ℕ} {tree : List ℕ} {queue : Queue} {time : ℕ} {row : List ℕ} {queue' : Queue} (x : Matching)
    (w : Push ρ k tree queue time row x queue') (f : RowFits k (length row)) where
  pub queue_not_rising : (Rising (held_times queue) → ⊥) → x ≡ Err (refusal 10 0)
  unfolding RefusedWith
  queue_not_rising h =
      ((push ρ k tree queue time row).no_other (refusal 10 0)
      (plainly _ 10 0 (inr (
        λ p z. z.given f,
        inl (refl, record { given = λ g. h g.kept.rising; there = refl }),
      ))) x queue' w).0

  pub push_not_above : Handed ρ k tree queue → Codes row → Early queue time → x ≡ Err (refusal 13 0)
  unfolding RefusedWith
  push_not_above g c h =
      ((push ρ k tree queue time row).no_other (refusal 13 0)
      (plainly _ 13 0 (inr (
        λ p z. z.given f,
        inr (
          λ p z. z.given g,
          inr (codes_never row c, inl (refl, record { given = h; there = refl })),
        ),
      ))) x queue' w).0

pub short_tried : {ρ : Rules} {k n : ℕ}
    {tree times codes answers tried given began answers' tried' given' began' : List ℕ}
    (o : Outcome)
    → AllMatched ρ k n tree times codes answers tried given began answers' tried' given' began' o
    → (length tried ≡ n → ⊥) → o ≡ Err (refusal 18 0)
unfolding RefusedWith
short_tried {ρ} {k} {n} {tree} {times} {codes} {answers} {tried} {given} {began} {answers'} {tried'} {given'} {began'} o
    w h =
    ((match_all k n tree codes times answers tried given began).no_other (refusal 18 0)
    (plainly _ 18 0 (inl (refl, record { given = λ l. h l.0.tried_all; there = refl }))) o
    (answers', tried', given', began') w).0

pub text_4097 : {ρ : Rules} {names text : List ℕ} {sort : Sort} (x : Result Read Refusal) → GoodNames names
    → 4096 < length text → ReadsText ρ names text sort x → x ≡ refused_with 1 4096
unfolding RefusedWith order among
text_4097 {ρ} {names} {text} {sort} x g h w =
    ((read_expression_lem ρ names text sort).no_other (refusal 1 4096)
    (record {
      by = refused_then (names_order names) (order text ++ tree_order ρ names text sort) 1 4096 (names_pass names g)
          (inl (refl, record { given = h; there = refl }));
      shows = other refl refl;
    }) x tt w).0
