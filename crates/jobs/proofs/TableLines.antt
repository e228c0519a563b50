-- What `table_line` comes to.
--   counted_few          what is counted is counted on at most 65,535 rows
--   line_counted, line_refused     the line by cases
--   table_line_unique    any two results, and the memory at exit, coincide
use Rattle.std.specs.Prelude.{Err, Ok}
use Prim.Native.Nat.{ℕ}
use mathlib.Core.Path.{◌≡◌}
use mathlib.Core.List.{List}
use Rattle.basics.specs.Refusing.{Outcome}
use Rattle.basics.specs.declared.Refusal.{Refusal}
use Rattle.matcher.specs.declared.tables.Total.{Total}
use Rattle.matching_calls.specs.Matching.{Counting}
use Rattle.table_lines.specs.Table.{pattern_line, refused_line}
use Rattle.figures.specs.Delivering.{Delivers}
use Rattle.figures.proofs.Delivering.{delivers_unique}
use Rattle.jobs.specs.declared.table.Line.{Line}
use Rattle.jobs.specs.Counting.{CountsText}
use Rattle.jobs.specs.Lines.{line_of, TableLine, Tabled}
use Rattle.jobs.proofs.TextCounts.{counted_rows, counts_unique}
use Rattle.alf.specs.declared.Rules.{Rules}

module _ {names : List ℕ} {n : ℕ} {states text : List ℕ} where
  pub counted_few : {ρ : Rules} {c : Counting} → CountsText ρ names n states text c → Tabled n c
  counted_few h = record { few = λ t e. (counted_rows (rw e at h)).1 }

module _ (text : List ℕ) (n : ℕ) {out out' : List ℕ} {c : Counting} {w : Outcome} where
  pub line_counted : {t : Total} → c ≡ Ok t
      → Delivers (pattern_line text t.yes t.unknown t.no n) out out' w
      → Delivers (line_of text n c) out out' w
  unfolding line_of
  line_counted e d = rw e d

  pub line_refused : {r : Refusal} → c ≡ Err r
      → Delivers (refused_line text r.number r.place) out out' w
      → Delivers (line_of text n c) out out' w
  unfolding line_of
  line_refused e d = rw e d

pub table_line_unique : {ρ : Rules} {names : List ℕ} {n : ℕ} {states text out x y : List ℕ} {r s : Line}
    → TableLine ρ names n states text out x r → TableLine ρ names n states text out y s → (r ≡ s) × (x ≡ y)
table_line_unique {ρ} {n = n} {text = text} {out = out} {r = r} {s = s} a b =
    let e : r.counted ≡ s.counted = counts_unique a.counts b.counts in
    let d = delivers_unique (line_of text n s.counted) out (rw e at a.writes) b.writes in
    (λ i. record { counted = e i; written = d.0 i }, d.1)
