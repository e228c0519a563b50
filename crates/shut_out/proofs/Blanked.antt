-- What is shut out of keeping and overwriting pins (document 02, [11]): `keep_text` and `blank` refuse exactly where
-- their orders say, and do nothing but what is defined; their contracts are the functions' own and ask nothing.
--   BlankGood, blank, KeepGood, keep_text     good input, and `Exactly` of the calls
--   kept_pin_overwritten       a kept pin of which a state is another one than before
--   other_pin_told             a pin that is not kept, of which a state is not X
--   T_not_refused              T refused, with a table of three pins
--   T_overwritten              T, of which A alone is kept: any other trace in its place
--   pin_forgotten              a pin that the text's expression names, and that is not kept
--   pin_invented               a pin that is kept, though the text does not name it and it was not kept before
--   blank_attached, keep_text_attached     the contracts
use Rattle.std.specs.Prelude.{Err, Ok}
use Rattle.std.specs.Prelude.{if◌then◌else◌}
use Prim.Native.Nat.{ℕ, ◌<◌}
use native.Mathlib.Nat.{zero-add}
use native.Mathlib.Omega.{arith}
use mathlib.Core.Path.{◌≡◌, refl, sym, ◌∙◌}
use mathlib.Core.Bool.{true, false}
use mathlib.Core.List.{List, [], ◌∷◌}
use lib.ListN.{length, get_or}
use contract.Lifetimes.{Lfts}
use borrow.Fn.Kinds.{Dens}
use Rattle.basics.specs.declared.Refusal.{Refusal}
use Rattle.basics.specs.Refusing.{Outcome}
use Rattle.basics.specs.Memory.{after}
use Rattle.basics.specs.Words.{listed}
use Rattle.basics.proofs.Bools.{never}
use Rattle.basics.proofs.Listed.{listed_at}
use Rattle.alf.specs.declared.Rules.{Rules}
use Rattle.alf.specs.declared.Sort.{Sort}
use Rattle.alf.specs.Names as slots
use Rattle.alf.specs.Expressions.{Expression}
use Rattle.alf.specs.States.{X}
use Rattle.alf.specs.Values.{row_of}
use Rattle.alf.specs.Refusals.{Order, Passed, Comes}
use Rattle.alf.specs.TableT.{names, rows, states}
use Rattle.alf.proofs.Orders.{passed_both}
use Rattle.reader.specs.Reading.{read_order, Gives}
use Rattle.reader.proofs.Unique.{gives_unique}
use Rattle.call_laws.proofs.Passing.{codes_never}
use Rattle.queue.specs.Queues.{fed}
use Rattle.named_pins.specs.Pins.{named}
use Rattle.named_pins.specs.Tables.{keeps}
use Rattle.named_pins.proofs.Joined.{joined_at}
use Rattle.blank_calls.specs.Overwritten.{blanked_row}
use Rattle.blank_calls.specs.Blanking.{blank_order, Blanks}
use Rattle.blank_calls.proofs.Rows.{row_length}
use Rattle.blank_calls.proofs.Outcomes.{blank_unique}
use Rattle.blank_calls.proofs.blanking.blank.Reads as blank_says
use Rattle.blank_calls.proofs.blanking.blank.Kinds as blank_kinds
use Rattle.kept_texts.specs.Keeping as keeping
use Rattle.kept_texts.specs.Keeping.{keep_order, KeepsText, refuses}
use Rattle.kept_texts.proofs.Theorems.{keep_unique}
use Rattle.kept_texts.proofs.keeping.keep_text.Reads as keep_text_says
use Rattle.kept_texts.proofs.keeping.keep_text.Kinds as keep_text_kinds
use Rattle.blanking.proofs.Blanking.{fed_row}
use Rattle.shut_out.specs.Reasons.{Exactly, ExactlyIn}
use Rattle.shut_out.proofs.Reasons.{exactly, exactly_in, comes_parts, ComesIn, comes_in_parts}
use Rattle.shut_out.proofs.RefusingRows.{GoodTrace}
use Rattle.shut_out.proofs.RefusingTexts.{Readable, read_passes}
use Rattle.shut_out.proofs.OnT.{trace_good}

-- a good trace, and a table with an entry for each name
module _ (k n : ℕ) (codes kept : List ℕ) where
  pub record BlankGood : Type 0 where
    pub trace : GoodTrace k n codes
    pub full : length kept ≡ k

  blank_passes : BlankGood → Passed (blank_order k n codes kept)
  unfolding Passed
  blank_passes g = (λ p a. a.given (g.full, g.trace.lists), (codes_never codes g.trace.codes, tt))

  pub blank : Exactly BlankGood (blank_order k n codes kept) Err (λ r m. Blanks k n codes kept m r) codes
  unfolding Comes after
  blank =
      exactly blank_passes
      (record {
        reason = λ r m w. w.comes;
        parts = λ x m w. comes_parts _ _ x w.comes;
        refuses = λ r h. record { comes = h; memory = refl };
        one = λ a b x y v w. blank_unique v w;
      })

-- an entry of the trace that is written
module _ {k n : ℕ} {codes kept codes' : List ℕ} {m : ℕ} (b : Blanks k n codes kept codes' (Ok m)) (r i : ℕ)
    (there : r < n) (pin : i < k) where
  entry : row_of k codes' r i ≡ (if keeps kept i then row_of k codes r i else X)
  unfolding after blanked_row
  entry =
      rw b.memory
      (fed_row k (blanked_row (keeps kept) (λ x y. X) k codes) n
      (λ j l. row_length (keeps kept) (λ x y. X) k codes j) r i there pin
      ∙ listed_at 0 k i (λ j. if keeps kept j then row_of k codes r j else X) 0 pin
      ∙ rw (zero-add i) refl)

  pub kept_pin_overwritten : keeps kept i ≡ true → (row_of k codes' r i ≡ row_of k codes r i → ⊥) → ⊥
  kept_pin_overwritten h differ = differ (rw h at entry)

  pub other_pin_told : keeps kept i ≡ false → (row_of k codes' r i ≡ X → ⊥) → ⊥
  other_pin_told h differ = differ (rw h at entry)

-- on T, whose rows are 011 111 10X X01 1Z1 10H
pub T_not_refused : {kept codes' : List ℕ} (r : Refusal) → length kept ≡ names
    → Blanks names rows states kept codes' (Err r) → ⊥
T_not_refused {kept} {codes'} r full w =
    (blank names rows states kept).no_refusal (record { trace = trace_good; full = full }) r codes' w

pub T_overwritten : {codes' : List ℕ} {m : ℕ} → Blanks names rows states (1 ∷ 0 ∷ 0 ∷ []) codes' (Ok m)
    → codes'
    ≡ 0 ∷ X ∷ X ∷ 1 ∷ X ∷ X ∷ 1 ∷ X ∷ X ∷ X ∷ X ∷ X ∷ 1 ∷ X ∷ X ∷ 1 ∷ X ∷ X ∷ []
unfolding after fed blanked_row listed keeps states
T_overwritten b = b.memory

-- a text that gives an expression, and a table with an entry for each name
module _ (ρ : Rules) (list text : List ℕ) (sort : Sort) (kept : List ℕ) where
  pub record KeepGood : Type 0 where
    pub readable : Readable ρ list text sort
    pub full : length kept ≡ slots.names_in list

  abbrev whole : Order
  whole = keep_order ρ list text sort kept

  keep_passes : KeepGood → Passed whole
  unfolding Passed
  keep_passes g =
      passed_both (read_order ρ list text sort) _ (read_passes ρ list text sort g.readable)
      (λ p a. a.given g.full, tt)

  comes : {x : Outcome} {m : List ℕ} → KeepsText ρ list text sort kept m x → ComesIn text whole x
  unfolding ComesIn
  comes (keeping.keeps e p g h is) = p
  comes (refuses a is) = a

  pub keep_text : ExactlyIn text KeepGood whole Err (λ r m. KeepsText ρ list text sort kept m r) kept
  unfolding ComesIn
  keep_text =
      exactly_in text keep_passes
      (record {
        reason = λ r m w. comes w;
        parts = λ x m w. comes_in_parts text whole x (comes w);
        refuses = λ r h. refuses h refl;
        one = λ a b m n x y. keep_unique ρ list text sort kept x y;
      })

  -- an entry of the table
  module _ {x : Expression} (g : Gives ρ list text sort x) {kept' : List ℕ} {m : ℕ} (i : ℕ) (pin : i < length kept)
    where
      is_joined : KeepsText ρ list text sort kept kept' (Ok m)
          → get_or kept' i 0 ≡ (if named x i then 1 else get_or kept i 0)
      is_joined (keeping.keeps y p h e is) =
          rw (is, gives_unique h g) (joined_at (named x) kept i pin)

      pub pin_forgotten : KeepsText ρ list text sort kept kept' (Ok m) → named x i ≡ true
          → keeps kept' i ≡ false → ⊥
      unfolding keeps
      pin_forgotten w h e = let z = rw h at (is_joined w) in never (sym (rw z at e))

      pub pin_invented : KeepsText ρ list text sort kept kept' (Ok m) → named x i ≡ false
          → keeps kept i ≡ false → keeps kept' i ≡ true → ⊥
      unfolding keeps
      pin_invented w h o e = let z = rw h at (is_joined w) in never (sym o ∙ (rw z at e))

pub blank_attached : (κs : Lfts 2) (a : Dens κs blank_kinds.ps) → blank_says.Pre κs a
    × ((r : Outcome) (e : Dens κs blank_kinds.ps) → blank_says.Post κs a r e
    → Blanks a.0 a.1.0 a.1.1.0.now a.1.1.1.0.now e.1.1.0.now r)
blank_attached κs a = (tt, λ r e p. p)

pub keep_text_attached : (κs : Lfts 3) (a : Dens κs keep_text_kinds.ps) → keep_text_says.Pre κs a
    × ((r : Outcome) (e : Dens κs keep_text_kinds.ps) → keep_text_says.Post κs a r e
    → KeepsText a.0 a.1.0.now a.1.1.0.now a.1.1.1.0 a.1.1.1.1.0.now
    e.1.1.1.1.0.now r)
keep_text_attached κs a = (tt, λ r e p. p)
