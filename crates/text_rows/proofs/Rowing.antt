-- Rows, one after the other.
--   Rowing, rowing_first                       the rows before the r-th have passed
--   row_in, rowing_refused, rowing_few, rowing_next     one row more
--   rows_none, rows_done                       no line is left
use Rattle.std.specs.Prelude.{Err, Ok}
use Prim.Native.Nat.{ℕ, suc, ◌+◌, ◌-◌, ◌<◌, ◌≤◌}
use native.Mathlib.Omega.{arith}
use mathlib.Core.Path.{◌≡◌, refl, sym, ap, ◌∙◌}
use mathlib.Core.Bool.{Bool}
use mathlib.Core.Logic.{◌⊎◌, inl, inr}
use mathlib.Core.List.{List, [], ◌∷◌, ◌++◌}
use lib.ListN.{length, get_or, drop, length-drop}
use lib.Seq.{drop-drop}
use Rattle.basics.specs.declared.Refusal.{Refusal}
use Rattle.basics.specs.Refusing.{Outcome}
use Rattle.alf.specs.Refusals.{check, At, RefusedWith, Passed, Comes}
use Rattle.alf.proofs.Orders.{Is, plainly, refused_first, refused_then, refused_either}
use Rattle.alf.proofs.Orders.{passed_both, passed_left, passed_right}
use Rattle.trace_texts.specs.Words.{Line, line}
use Rattle.trace_texts.specs.Texts.{time_of_lem, row_order, rows_order}
use Rattle.trace_texts.specs.Finding.{from, said_from, Passes, Next}
use Rattle.trace_texts.proofs.WordOf.{drop_first}
use Rattle.trace_texts.proofs.OnAndOn.{said_here, said_none, said_on, some_word}
use Rattle.trace_texts.proofs.PassedParts.{row_few}
use Rattle.trace_texts.proofs.Each.{piece_refused, piece_passed}
use Rattle.text_checks.specs.Inner.{LineIn}
use Rattle.text_rows.specs.Rows.{RowIn, early, time_order, rest_order, lines_order}

-- what is early may be said in two ways
module _ (r : ℕ) (soon soon' : Type 0) (row : Line) where
  time_refused : (soon → soon') → (soon' → soon) → (n p : ℕ) → RefusedWith (time_order r soon row) n p
      → RefusedWith (time_order r soon' row) n p
  unfolding RefusedWith
  time_refused f g n p (inl a) = inl a
  time_refused f g n p (inr (a, inl b)) = inr (a, inl b)
  time_refused f g n p (inr (a, inr (b, inl (e, d)))) =
      inr (a, inr (b, inl (e, record { given = f d.given; there = d.there })))
  time_refused f g n p (inr (a, inr (b, inr (d, e)))) = absurd e

  time_passed : (soon' → soon) → Passed (time_order r soon row) → Passed (time_order r soon' row)
  unfolding Passed
  time_passed g (a, (b, (d, e))) =
      (a, (b, ((λ q x. d q (record { given = g x.given; there = x.there })), e)))

abbrev no_line : Line
no_line = line [] 0

grows : (k : ℕ) (passed : Bool) (rows : List Line) (n : ℕ)
    → rows_order k passed rows (suc n) ≡ rows_order k passed rows n ++ row_order k passed rows n
unfolding rows_order
grows k passed rows n = refl

-- the rows before the r-th have passed, and the r-th starts at a place
pub record Rowing (text : List ℕ) (p k : ℕ) (passed : Bool) (at r last : ℕ) : Type 0 where
  pub before : ℕ
  pub next : Next text before at
  pub left : drop r (said_from text p) ≡ said_from text at
  pub few : r ≤ length (said_from text p)
  pub good : Passed (rows_order k passed (said_from text p) r)
  pub later : 0 < r → last ≡ time_of_lem (get_or (said_from text p) (r - 1) no_line)

pub rowing_first : {text : List ℕ} {p k at : ℕ} {passed : Bool} → Next text p at → Rowing text p k passed at 0 0
unfolding rows_order Passed
rowing_first {p = p} n =
    record {
      before = p;
      next = n;
      left = n.same_said;
      few = omega arith;
      good = tt;
      later = λ h. absurd (omega arith);
    }

module _ {text : List ℕ} {p k : ℕ} {passed : Bool} {at r last : ℕ} (g : Rowing text p k passed at r last) where
  abbrev rows : List Line
  rows = said_from text p

  -- no line is left
  module _ (h : length text ≤ at) where
    all : r ≡ length rows
    all =
        omega (
          arith,
          length-drop r rows,
          ap length (g.left ∙ said_none text at h),
          g.few,
        )

    end : at ≡ length text
    end = omega (arith, h, g.next.within)

    passes : Passed (rows_order k passed rows (length rows))
    passes = rw all at g.good

    pub rows_none : {o : Outcome} (made : ℕ → Type 0) → r ≡ 0 → Is o 14 at
        → Comes (lines_order k passed (length text) rows) made o
    unfolding Comes RefusedWith
    rows_none made z is =
        rw is
        (plainly _ 14 at
        (refused_then (rows_order k passed rows (length rows)) _ 14 at passes
        (inl (refl, record { given = sym all ∙ z; there = end }))))

    pub rows_done : (r ≡ 0 → ⊥) → Comes (lines_order k passed (length text) rows) (λ n. n ≡ length rows) (Ok r)
    unfolding Comes Passed
    rows_done n =
        let last : Passed (check 14 (At (length text) (length rows ≡ 0)) ∷ []) = ((λ q a. n (all ∙ a.given)), tt) in
        (passed_both (rows_order k passed rows (length rows)) _ passes last, all)

  -- a line is left
  module _ (h : at < length text) where
    abbrev row : Line
    row = (from text at).first

    here : (r < length rows) × (get_or rows r no_line ≡ row)
    here = drop_first no_line rows r (sym (g.left ∙ said_here g.next h))

    pub row_in : LineIn text p k → RowIn text at k
    row_in l =
        record {
          timed = record { within = g.next.within; some = some_word g.next h };
          names = record { within = g.next.within; few = l.few };
        }

    abbrev soon : Type 0
    soon = early r (time_of_lem (get_or rows (r - 1) no_line)) row

    order : row_order k passed rows r ≡ time_order r soon row ++ rest_order k passed row
    unfolding row_order
    order =
        ap (λ (l : Line). time_order r (early r (time_of_lem (get_or rows (r - 1) no_line)) l) l ++ rest_order k passed l)
        here.1

    to : early r last row → soon
    to a = (a.0, rw (g.later a.0) at a.1)

    back : soon → early r last row
    back a = (a.0, rw (g.later a.0) a.1)

    module _ (made' : ℕ → Type 0) where
      pub rowing_refused : (q : Refusal)
          → Comes (time_order r (early r last row) row ++ rest_order k passed row) made' (Err q) → (made : ℕ → Type 0)
          → Comes (lines_order k passed (length text) rows) made (Err q)
      unfolding Comes
      rowing_refused q refused made =
          record {
            by =
                refused_first (rows_order k passed rows (length rows)) _ q.number q.place
                (piece_refused (rows_order k passed rows) (row_order k passed rows) (grows k passed rows) r
                (length rows) q.number q.place here.0 g.good
                (rw order (go (refused_either _ _ _ _ refused.by))));
            bare = refused.bare;
          }
        where
          go : RefusedWith (time_order r (early r last row) row) q.number q.place
              ⊎ (Passed (time_order r (early r last row) row)
              × RefusedWith (rest_order k passed row) q.number q.place)
              → RefusedWith (time_order r soon row ++ rest_order k passed row) q.number q.place
          go (inl a) =
              refused_first (time_order r soon row) (rest_order k passed row) _ _
              (time_refused r (early r last row) soon row to back _ _ a)
          go (inr (a, b)) =
              refused_then (time_order r soon row) (rest_order k passed row) _ _
              (time_passed r (early r last row) soon row back a) b

    module _ (both : Passed (time_order r (early r last row) row ++ rest_order k passed row)) where
      passes_row : Passed (row_order k passed rows r)
      passes_row =
          rw order
          (passed_both (time_order r soon row) (rest_order k passed row)
          (time_passed r (early r last row) soon row back (passed_left (time_order r (early r last row) row) _ both))
          (passed_right (time_order r (early r last row) row) _ both))

      pub rowing_few : r < 65535
      rowing_few = row_few k passed rows r passes_row

      pub rowing_next : {t b at' : ℕ} → t ≡ time_of_lem row → Passes text at b → Next text b at'
          → Rowing text p k passed at' (r + 1) t
      rowing_next {b = b} read v w =
          record {
            before = b;
            next = w;
            left = sym (drop-drop 1 r rows) ∙ ap (drop 1) g.left ∙ said_on g.next h v w;
            few = omega (arith, here.0);
            good =
                piece_passed (rows_order k passed rows) (row_order k passed rows) (grows k passed rows) r g.good
                passes_row;
            later = λ l.
                let q : r + 1 - 1 ≡ r = omega arith in
                read ∙ ap time_of_lem (sym here.1) ∙ ap (λ (i : ℕ). time_of_lem (get_or rows i no_line)) (sym q);
          }
