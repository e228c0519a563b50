-- What `make_trace` comes to follows from its input: the result and the lists afterwards. Main name: made_unique.
use Rattle.std.specs.Prelude.{Err, Ok}
use Rattle.trace_reader.specs.Reading.{size}
use Prim.Native.Nat.{ℕ, zero, suc}
use mathlib.Core.Path.{◌≡◌, refl, sym, ap, ◌∙◌}
use mathlib.Core.Bool.{Bool}
use mathlib.Core.List.{List, [], ◌∷◌}
use lib.ListN.{length}
use Rattle.alf.proofs.Orders.{fixed_both}
use Rattle.alf.proofs.Outcomes.{AllFixed, at_fixed, refused_passed, refused_by_unique}
use Rattle.trace_reader.specs.Reading.{Reading}
use Rattle.trace_texts.specs.Words.{Word, Line, lines_of}
use Rattle.trace_texts.specs.Texts.{name_words, wide, names_order, head_order, states_order, row_order, rows_order}
use Rattle.trace_texts.specs.Texts.{said_order, text_order}
use Rattle.text_reading.specs.Reading.{read_order, MakesTrace}

-- each check of a text fixes its place
names_fixed : (names : List Word) (n : ℕ) → AllFixed (names_order names n)
unfolding names_order
names_fixed names zero = tt
names_fixed names (suc n) =
    fixed_both (names_order names n) _ (names_fixed names n) (at_fixed _ _, (at_fixed _ _, tt))

head_fixed : (head : Line) → AllFixed (head_order head)
unfolding head_order
head_fixed head = (
  at_fixed _ _,
  fixed_both (names_order (name_words head) (length (name_words head))) _
      (names_fixed (name_words head) (length (name_words head))) (at_fixed _ _, tt),
)

states_fixed : (row : Line) (n : ℕ) → AllFixed (states_order row n)
unfolding states_order
states_fixed row zero = tt
states_fixed row (suc n) = fixed_both (states_order row n) _ (states_fixed row n) (at_fixed _ _, (at_fixed _ _, tt))

row_fixed : (k : ℕ) (passed : Bool) (rows : List Line) (r : ℕ) → AllFixed (row_order k passed rows r)
unfolding row_order
row_fixed k passed rows r = (
  at_fixed _ _,
  (at_fixed _ _, (at_fixed _ _, fixed_both (states_order _ k) _ (states_fixed _ k) (at_fixed _ _, tt))),
)

rows_fixed : (k : ℕ) (passed : Bool) (rows : List Line) (n : ℕ) → AllFixed (rows_order k passed rows n)
unfolding rows_order
rows_fixed k passed rows zero = tt
rows_fixed k passed rows (suc n) =
    fixed_both (rows_order k passed rows n) _ (rows_fixed k passed rows n) (row_fixed k passed rows n)

said_fixed : (size : ℕ) (ls : List Line) → AllFixed (said_order size ls)
unfolding said_order
said_fixed size [] = (at_fixed _ _, tt)
said_fixed size (head ∷ rows) =
    fixed_both (head_order head) _ (head_fixed head)
    (fixed_both (rows_order (length (name_words head)) (wide head) rows (length rows)) _
    (rows_fixed (length (name_words head)) (wide head) rows (length rows)) (at_fixed _ _, tt))

text_fixed : (text : List ℕ) → AllFixed (text_order text)
unfolding text_order
text_fixed text = said_fixed (length text) (lines_of text)

module _ (text ns ts ss : List ℕ) where
  read_fixed : AllFixed (read_order text ns ts ss)
  read_fixed =
      fixed_both (text_order text) _ (text_fixed text) (at_fixed _ _, (at_fixed _ _, (at_fixed _ _, tt)))

  pub made_unique : {n₁ t₁ s₁ n₂ t₂ s₂ : List ℕ} (r q : Reading) → MakesTrace text ns ts ss n₁ t₁ s₁ r
      → MakesTrace text ns ts ss n₂ t₂ s₂ q → (r ≡ q) × (n₁ ≡ n₂) × (t₁ ≡ t₂) × (s₁ ≡ s₂)
  unfolding MakesTrace
  made_unique (Ok s) (Ok t) a b =
      let e : s.names ≡ t.names = a.named ∙ sym b.named in
      let f : s.rows ≡ t.rows = a.counted ∙ sym b.counted in (
        λ i. Ok (size (e i) (f i)),
        a.names_now ∙ sym b.names_now,
        a.times_now ∙ sym b.times_now,
        a.states_now ∙ sym b.states_now,
      )
  made_unique (Ok s) (Err y) a b = absurd (refused_passed _ _ _ a.passes b.0.by)
  made_unique (Err x) (Ok t) a b = absurd (refused_passed _ _ _ b.passes a.0.by)
  made_unique (Err x) (Err y) a b = (
    ap Err (refused_by_unique _ read_fixed a.0 b.0),
    a.1.names_kept ∙ sym b.1.names_kept,
    a.1.times_kept ∙ sym b.1.times_kept,
    a.1.states_kept ∙ sym b.1.states_kept,
  )
