-- Document 02, [11], for a whole table: the pins that the patterns of a table name are kept, by `keep_text`, and all
-- others are overwritten, by `blank`. Then the lines of the table are, byte for byte, what they were. The table may be
-- asked by any rules, also by others than the pins were kept by.
--   text_kept, line_kept        what is counted of a text whose pins are kept, and its line
--   still_kept, kept_named      a pin that is kept stays so; the pins that a text names are kept
--   patterns_kept               the pins of all patterns are
--   table_same                  each line of the table
use Rattle.std.specs.Prelude.{Err, Ok}
use Prim.Native.Nat.{ℕ, ◌<◌}
use native.Mathlib.Omega.{arith}
use mathlib.Core.Path.{◌≡◌, refl, sym, ◌∙◌}
use mathlib.Core.Bool.{Bool, true, not}
use mathlib.Core.Logic.{◌⊎◌, inl, inr}
use mathlib.Core.List.{List, ◌++◌}
use lib.Dec.{eqb}
use lib.ListN.{length}
use Rattle.basics.specs.Refusing.{Outcome}
use Rattle.basics.specs.Words.{All}
use Rattle.basics.specs.Words as words
use Rattle.basics.proofs.Choices.{if_all}
use Rattle.basics.proofs.Stable.{eq_stable}
use Rattle.alf.specs.declared.Rules.{Rules}
use Rattle.alf.specs.declared.Sort.{Sort}
use Rattle.alf.specs.declared.Sort.TheVariants as sort
use Rattle.alf.specs.Names as slots
use Rattle.alf.specs.Expressions.{Vector, Expression, vector, ExpressionOver}
use Rattle.alf.specs.Bytes.{bytes_of}
use Rattle.alf.specs.Refusals.{Order, RefusedWith, Passed}
use Rattle.alf.proofs.Decoding.{decode_over}
use Rattle.alf.proofs.Orders.{passed_left, passed_right, passed_both, refused_first, refused_then, refused_either}
use Rattle.names.specs.Check.{names_order}
use Rattle.reader.specs.Reading.{read_order, Gives}
use Rattle.tokens.proofs.TextLaws.{reads_unique}
use Rattle.grammar.proofs.Unique.{parses_unique}
use Rattle.text_laws.proofs.GivenAccepted.{gives_decodes}
use Rattle.matching_calls.specs.Matching.{Counting}
use Rattle.named_pins.specs.Pins.{names_in, named}
use Rattle.named_pins.specs.Tables.{keeps, joined}
use Rattle.named_pins.proofs.Joined.{joined_at}
use Rattle.kept_texts.specs.Keeping as keeping
use Rattle.kept_texts.specs.Keeping.{KeepsText}
use Rattle.blank_calls.specs.Blanking.{Blanks}
use Rattle.jobs.specs.declared.table.Line.{Line}
use Rattle.jobs.specs.Counting.{trace_checks, count_order, TotalsText, CountsIn, CountsText}
use Rattle.jobs.specs.Lines.{TableLine}
use Rattle.jobs.proofs.TableLines.{table_line_unique}
use Rattle.blanking.specs.Tables.{Kept, none, pattern, pin}
use Rattle.blanking.proofs.Blanking.{blanked_totals, named_below}
use Rattle.blanking.proofs.BlankedCalls.{keeps_below, blank_lists, blank_is, blank_size, rest_passed}
use Rattle.blanking.proofs.BlankedCalls.{rest_carried}

-- a table keeps the pins of each pattern that a text gives
abbrev pub Covers : Rules → List ℕ → List ℕ → List ℕ → Type 0
Covers ρ names kept text =
    (p : Vector) → Gives ρ names text sort.Vector (vector p) → (i : ℕ) → names_in p i ≡ true → keeps kept i ≡ true

module _ {ρ : Rules} {names : List ℕ} {n : ℕ} {states kept states' : List ℕ} {m : ℕ} {text : List ℕ}
    (b : Blanks (slots.names_in names) n states kept states' (Ok m)) (covers : Covers ρ names kept text) where
  abbrev checks : List ℕ → Order
  checks = trace_checks (slots.names_in names) n

  abbrev reading : Order
  reading = read_order ρ names text sort.Vector

  trace_passed : Passed (checks states) → Passed (checks states')
  unfolding Passed
  trace_passed (x, y) = (λ p a. x p (rw (blank_size b) at a), rest_passed b)

  trace_refused : (q p : ℕ) → RefusedWith (checks states) q p → RefusedWith (checks states') q p
  unfolding RefusedWith
  trace_refused q p (inl x) = rw (blank_size b) (inl x)
  trace_refused q p (inr (u, x)) = absurd (rest_carried b q p x)

  all_refused : (q p : ℕ) → RefusedWith (reading ++ checks states) q p → RefusedWith (reading ++ checks states') q p
  all_refused q p h = go (refused_either reading (checks states) q p h)
    where
      go : RefusedWith reading q p ⊎ (Passed reading × RefusedWith (checks states) q p)
          → RefusedWith (reading ++ checks states') q p
      go (inl x) = refused_first reading (checks states') q p x
      go (inr (x, y)) = refused_then reading (checks states') q p x (trace_refused q p y)

  totals_text : {x y z : ℕ} → TotalsText ρ names n states text x y z → TotalsText ρ names n states' text x y z
  totals_text t =
      let k = slots.names_in names in
      let below : (i : ℕ) → keeps kept i ≡ true → i < k =
      λ i h. omega (arith, keeps_below kept i h, (blank_lists b).0) in
      let same = blanked_totals ρ k t.pattern (keeps kept) (covers t.pattern t.given) below _ states n in
      record {
        pattern = t.pattern;
        given = t.given;
        totals =
            rw (blank_is b)
            (record {
              yeses = t.totals.yeses ∙ same 1;
              noes = t.totals.noes ∙ same 0;
              unknowns = t.totals.unknowns ∙ same 2;
            });
      }

  counted_in : (c : Counting) → CountsIn text (count_order ρ names n states text) (TotalsText ρ names n states text) c
      → CountsIn text (count_order ρ names n states' text) (TotalsText ρ names n states' text) c
  unfolding CountsIn
  counted_in (Ok t) (p, x) = (
    passed_both reading (checks states') (passed_left reading (checks states) p)
        (trace_passed (passed_right reading (checks states) p)),
    totals_text x,
  )
  counted_in (Err r) h = record { by = all_refused _ _ h.by; shows = h.shows }

  pub text_kept : {c : Counting} → CountsText ρ names n states text c → CountsText ρ names n states' text c
  text_kept {c} h = record { comes = counted_in c h.comes }

  pub line_kept : {out out' : List ℕ} {r : Line} → TableLine ρ names n states text out out' r
      → TableLine ρ names n states' text out out' r
  line_kept h = record { counts = text_kept h.counts; writes = h.writes }

-- an entry that is marked is kept, and one that was kept stays so
module _ (pins : ℕ → Bool) (kept : List ℕ) (i : ℕ) (l : i < length kept) where
  marked : pins i ≡ true → keeps (joined pins kept) i ≡ true
  unfolding keeps
  marked h = rw (joined_at pins kept i l, h) refl

  unmarked : keeps kept i ≡ true → keeps (joined pins kept) i ≡ true
  unfolding keeps
  unmarked h =
      rw (joined_at pins kept i l)
      (if_all (λ (e : ℕ). not (eqb e 0) ≡ true) (pins i) (λ p. refl) (λ p. h))

pub still_kept : {ρ : Rules} {names text : List ℕ} {s : Sort} {kept kept' : List ℕ} {r : Outcome}
    → KeepsText ρ names text s kept kept' r → (i : ℕ) → keeps kept i ≡ true → keeps kept' i ≡ true
still_kept {kept = kept} (keeping.keeps x p g e is) i h =
    rw is (unmarked (named x) kept i (keeps_below kept i h) h)
still_kept (keeping.refuses a is) i h = rw is h

-- a text gives one pattern, whatever the rules are
gives_any : {ρ ρ' : Rules} {names text : List ℕ} {x y : Expression} → Gives ρ names text sort.Vector x
    → Gives ρ' names text sort.Vector y → x ≡ y
gives_any a b =
    let e = parses_unique (rw (reads_unique b.read a.read) at b.whole) a.whole in
    let s = rw e at b.sorts in
    let t = sym a.sorts ∙ s in cc

module _ (ρ : Rules) (names text kept : List ℕ) where
  full : Passed (keeping.keep_order ρ names text sort.Vector kept) → length kept ≡ slots.names_in names
  unfolding Passed
  full a =
      let none = (passed_right (read_order ρ names text sort.Vector) (keeping.table_checks names kept) a).0 in
      eq_stable (length kept) (slots.names_in names) (λ d. none 0 (record { given = d; there = refl }))

  over : (p : Vector) → Passed (keeping.keep_order ρ names text sort.Vector kept)
      → Gives ρ names text sort.Vector (vector p) → (i : ℕ) → names_in p i ≡ true → i < length kept
  unfolding ExpressionOver
  over p a g i h =
      let k = slots.names_in names in
      let good = passed_left (read_order ρ names text sort.Vector) _ a in
      let decodes = gives_decodes (passed_left (names_order names) _ good) g in
      omega (arith, full a, named_below k p (decode_over k (bytes_of (vector p)) (vector p) decodes) i h)

  given_named : (ρ' : Rules) {kept' : List ℕ} {r : ℕ} → KeepsText ρ names text sort.Vector kept kept' (Ok r)
      → Covers ρ' names kept' text
  unfolding named
  given_named ρ' (keeping.keeps x a g e is) p q i h =
      let same = gives_any q g in
      let given = rw (sym same) at g in
      rw (is, sym same) (marked (named (vector p)) kept i (over p a given i h) h)

pub kept_named : {ρ ρ' : Rules} {names text kept kept' : List ℕ} {r : ℕ}
    → KeepsText ρ names text sort.Vector kept kept' (Ok r) → Covers ρ' names kept' text
kept_named {ρ} {ρ'} {names} {text} {kept} k = given_named ρ names text kept ρ' k

pub patterns_kept : {ρ : Rules} {names last kept : List ℕ} {texts : List (List ℕ)} → Kept ρ names last kept texts
    → ((i : ℕ) → keeps kept i ≡ true → keeps last i ≡ true)
    × ((ρ' : Rules) → All (Covers ρ' names last) texts)
patterns_kept none = (λ i h. h, λ ρ'. words.none)
patterns_kept (pattern k ks) =
    let (stays, all) = patterns_kept ks in (
      λ i h. stays i (still_kept k i h),
      λ ρ'. words.more (λ p g i h. stays i (kept_named k p g i h)) (all ρ'),
    )
patterns_kept (pin k ks) =
    let (stays, all) = patterns_kept ks in (λ i h. stays i (still_kept k i h), all)

-- each line of the table, before and after
abbrev pub SameLine : Rules → List ℕ → ℕ → List ℕ → List ℕ → List ℕ → Type 0
SameLine ρ names n states states' text =
    (out x y : List ℕ) (r s : Line) → TableLine ρ names n states text out x r → TableLine ρ names n states' text out y s
    → (r ≡ s) × (x ≡ y)

module _ {names : List ℕ} {n : ℕ} {states kept states' : List ℕ} {m : ℕ}
    (b : Blanks (slots.names_in names) n states kept states' (Ok m)) (ρ : Rules) where
  each_same : {texts : List (List ℕ)} → All (Covers ρ names kept) texts
      → All (SameLine ρ names n states states') texts
  each_same words.none = words.none
  each_same (words.more c cs) =
      words.more (λ out x y r s f g. table_line_unique (line_kept b c f) g) (each_same cs)

  pub table_same : {ρ' : Rules} {first : List ℕ} {texts : List (List ℕ)} → Kept ρ' names kept first texts
      → All (SameLine ρ names n states states') texts
  table_same k = each_same ((patterns_kept k).1 ρ)
