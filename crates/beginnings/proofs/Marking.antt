-- The rows before r have their flags and times.
--   turned_down, time_asked, told          a row, by whether it answers yes
--   row_asked, found_asked                 what is asked of a row
--   Marking, marking_first, -next, -end    all rows
--   given_length, began_length
use Rattle.std.specs.Prelude.{None, Some}
use Prim.Native.Nat.{ℕ, ◌+◌, ◌<◌, ◌≤◌}
use native.Mathlib.Omega.{arith}
use mathlib.Core.Path.{◌≡◌, refl, ap, sym, ◌∙◌}
use mathlib.Core.Bool.{Bool, true, false}
use mathlib.Core.List.{List}
use lib.Dec.{eqb}
use lib.ListN.{length, get_or, set}
use borrow.Author.Tests.{eqb-true}
use Rattle.basics.specs.Words.{listed}
use Rattle.basics.proofs.Stores.{Writing, writing_first, writing_length}
use Rattle.basics.proofs.Listed.{ruling_next_front, ruling_front, listed_whole}
use Rattle.alf.specs.declared.Answer.{Answer}
use Rattle.alf.specs.declared.Stamp.{Stamp}
use Rattle.alf.specs.Beginnings.{Began}
use Rattle.alf.specs.Answers.{number_of}
use Rattle.alf.specs.Beginnings.{is_given, time_of_lem}
use Rattle.beginnings.specs.Times.{time_from, TimeAsked, began_by, BeganAsked, DateAsked}
use Rattle.beginnings.specs.Times.{began_of, MarksAsked, Marks}

-- a row, by whether it answers yes
module _ {times steps : List ℕ} {row : ℕ} {said : Bool} {tried : ℕ} (a : BeganAsked times steps row said tried) where
  pub turned_down : said ≡ false → None ≡ began_by times steps row said tried
  unfolding began_by
  turned_down e = rw e refl

  pub time_asked : said ≡ true → TimeAsked times steps row tried
  time_asked e =
      let t = a.took e in
      record { there = a.there; some = t.some; alternative = t.there; room = t.room }

  pub told : {t : Stamp} → said ≡ true → t.0 ≡ time_from times steps row tried
      → Some t ≡ began_by times steps row said tried
  unfolding began_by
  told e f = rw e (λ i. Some (record { 0 = f i }))

pub found_asked : {times steps : List ℕ} {row : ℕ} {a : Answer} {tried v : ℕ} → DateAsked times steps row a tried
    → v ≡ number_of a → BeganAsked times steps row (eqb v 1) tried
found_asked {v = v} d e =
    record { there = d.there; took = λ s. d.took (sym e ∙ eqb-true v 1 s) }

pub row_asked : {times steps : List ℕ} {n : ℕ} {answers tried given began : List ℕ} {r : ℕ}
    → MarksAsked times steps n answers tried given began → r < n
    → BeganAsked times steps r (eqb (get_or answers r 0) 1) (get_or tried r 0)
row_asked {answers = answers} {r = r} a h =
    record { there = omega (arith, a.times_all); took = λ s. a.took r h (eqb-true (get_or answers r 0) 1 s) }

pub record Marking (times steps : List ℕ) (n : ℕ) (answers tried given₀ began₀ given began : List ℕ) (r : ℕ)
    : Type 0 where
  pub flags : Writing given₀ 0 (listed 0 n (λ i. is_given (began_of times steps answers tried i))) given r
  pub stamps : Writing began₀ 0 (listed 0 n (λ i. time_of_lem (began_of times steps answers tried i))) began r

module _ {times steps : List ℕ} {n : ℕ} {answers tried given₀ began₀ : List ℕ} where
  pub marking_first : Marking times steps n answers tried given₀ began₀ given₀ began₀ 0
  marking_first = record { flags = writing_first; stamps = writing_first }

  module _ {given began : List ℕ} {r : ℕ} (g : Marking times steps n answers tried given₀ began₀ given began r) where
    pub given_length : length given ≡ length given₀
    given_length = writing_length g.flags

    pub began_length : length began ≡ length began₀
    began_length = writing_length g.stamps

    pub marking_next : {b : Began} {v w : ℕ} → r < n → b ≡ began_of times steps answers tried r
        → v ≡ is_given b → w ≡ time_of_lem b
        → Marking times steps n answers tried given₀ began₀ (set given r v) (set began r w) (r + 1)
    marking_next l e v w =
        record {
          flags = ruling_next_front _ g.flags l (v ∙ ap is_given e);
          stamps = ruling_next_front _ g.stamps l (w ∙ ap time_of_lem e);
        }

    pub marking_end : n ≤ r → length given₀ ≡ n → length began₀ ≡ n → Marks times steps n answers tried given began
    marking_end h l m =
        record {
          flags = ruling_front _ g.flags h (omega arith) ∙ listed_whole n _ given₀ l;
          stamps = ruling_front _ g.stamps h (omega arith) ∙ listed_whole n _ began₀ m;
        }
