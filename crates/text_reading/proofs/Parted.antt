-- A text taken apart: its head, and its rows.
--   Parted, parted           where the head starts, and where the rows do
--   no_head                  no line says anything
use Prim.Native.Nat.{ℕ, ◌<◌, ◌≤◌}
use native.Mathlib.Omega.{arith}
use mathlib.Core.Path.{◌≡◌, refl, ap, ◌∙◌}
use mathlib.Core.List.{List, [], ◌∷◌, ◌++◌}
use mathlib.Core.Logic.{◌⊎◌, inl, inr}
use lib.ListN.{length, get_or, drop}
use Rattle.basics.proofs.Bools.{below?}
use Rattle.basics.proofs.Stable.{le_stable, lt_stable}
use Rattle.alf.specs.Refusals.{RefusedWith, Passed}
use Rattle.alf.proofs.Orders.{passed_left}
use Rattle.trace_texts.specs.Words.{Line, line, lines_of}
use Rattle.trace_texts.specs.Texts.{name_words, wide, names_order, head_order, said_order, text_order}
use Rattle.trace_texts.specs.Finding.{from, said_from, Passes, Next}
use Rattle.trace_texts.proofs.OnAndOn.{said_here, said_none}
use Rattle.trace_texts.proofs.PassedParts.{one_name}
use Rattle.text_rows.specs.Rows.{lines_order}
use Rattle.text_reading.specs.Reading.{head_of, rows_of}

pub record Parted (text : List ℕ) (h b : ℕ) : Type 1 where
  pub head_is : head_of text ≡ (from text h).first
  pub rows_are : rows_of text ≡ said_from text b
  pub order : text_order text
      ≡ head_order (from text h).first
      ++ lines_order (length (name_words (from text h).first)) (wide (from text h).first) (length text)
      (said_from text b)

said_all : (text : List ℕ) → lines_of text ≡ said_from text 0
unfolding lines_of said_from from
said_all text = refl

order_of : (size : ℕ) (head : Line) (rows : List Line) → said_order size (head ∷ rows)
    ≡ head_order head ++ lines_order (length (name_words head)) (wide head) size rows
unfolding said_order
order_of size head rows = refl

pub parted : {text : List ℕ} {h b : ℕ} → Next text 0 h → h < length text → Passes text h b → Parted text h b
unfolding text_order
parted {text} {h} {b} n l p =
    let all : lines_of text ≡ (from text h).first ∷ said_from text b =
    said_all text ∙ n.same_said ∙ said_here n l ∙ ap (λ (x : List Line). (from text h).first ∷ x) p.lines_behind in
    record {
      head_is = ap (λ (x : List Line). get_or x 0 (line [] 0)) all;
      rows_are = ap (drop 1) all;
      order = ap (said_order (length text)) all ∙ order_of (length text) (from text h).first (said_from text b);
    }

-- no line says anything
module _ {text : List ℕ} {h : ℕ} (n : Next text 0 h) where
  none_said : length text ≤ h → lines_of text ≡ []
  none_said l = said_all text ∙ n.same_said ∙ said_none text h l

  pub no_head : length text ≤ h → RefusedWith (text_order text) 14 h
  unfolding text_order said_order RefusedWith
  no_head l = rw (none_said l) (inl (refl, record { given = tt; there = omega (arith, l, n.within) }))

  pub some_head : Passed (text_order text) → h < length text
  unfolding text_order said_order Passed
  some_head p = go (below? h (length text))
    where
      go : (h < length text) ⊎ (length text ≤ h) → h < length text
      go (inl l) = l
      go (inr l) = let q = rw (none_said l) at p in absurd (q.0 (length text) (record { given = tt; there = refl }))

-- a head that passed has at most 32 names
pub few_names : (head : Line) → Passed (head_order head) → length (name_words head) ≤ 32
unfolding head_order Passed
few_names head p =
    let names = name_words head in
    let in_names = passed_left (names_order names (length names)) _ p.1 in
    le_stable _ 32
    (λ n. (one_name names (length names) 32 in_names (lt_stable 32 _ (λ f. n (omega arith)))).0 (omega arith))
