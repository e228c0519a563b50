-- The sums of a table are the sums over the list of its patterns, and no table is so long that they do not fit.
--   sums_exact          added one after the other and not full at the end, and so nowhere: the sums over the list
--   never_full          fewer than 2^48 patterns, each with totals of at most 65,534 rows, are never full
--   counted_modest      what is counted of a text has such totals
--   table_never_full    so no table of fewer than 2^48 patterns on one trace is ever full
use Rattle.std.specs.Prelude.{Err, Ok}
use Rattle.std.specs.Prelude.{None, Some}
use Rattle.std.specs.Prelude.{if◌then◌else◌}
use Prim.Native.Nat.{ℕ, suc, ◌+◌, ◌*◌, ◌^◌, ◌<◌}
use native.Mathlib.Omega.{arith}
use mathlib.Core.Path.{◌≡◌, refl, sym, ap, ◌∙◌}
use mathlib.Core.Bool.{Bool, true, false}
use mathlib.Core.List.{List, [], ◌∷◌}
use lib.ListN.{length}
use borrow.Author.Tests.{lt-ltb}
use Rattle.alf.specs.declared.Rules.{Rules}
use Rattle.alf.specs.Names.{names_in}
use Rattle.basics.specs.declared.Refusal.{Refusal}
use Rattle.basics.specs.Words.{sum_of}
use Rattle.alf.specs.Values.{state_at}
use Rattle.alf.specs.Steady.{meant}
use Rattle.basics.proofs.AllEntries.{All, none, more, all_weaken}
use Rattle.alf.proofs.Totals.{totals_sum}
use Rattle.matcher.specs.declared.tables.Total.{Total}
use Rattle.matching_calls.specs.Matching.{Counting}
use Rattle.table_lines.specs.declared.lines.Sums.{Sums}
use Rattle.jobs.specs.Counting.{CountsIn, CountsText}
use Rattle.jobs.specs.Sums.{word, no_sums, grown, fit, added_to, added_all, Modest, CountedOn}
use Rattle.jobs.specs.Sums.{yes_of, unknown_of, no_of, pattern_of, sums_of}
use Rattle.jobs.proofs.TextCounts.{counted_rows}

-- the sums with those of a list more
behind : Sums → List Counting → Sums
behind s cs =
    record {
      yes = s.yes + sum_of yes_of cs;
      unknown = s.unknown + sum_of unknown_of cs;
      no = s.no + sum_of no_of cs;
      patterns = s.patterns + sum_of pattern_of cs;
      events = s.events;
    }

same_sums : (s r : Sums) → s.yes ≡ r.yes → s.unknown ≡ r.unknown → s.no ≡ r.no
    → s.patterns ≡ r.patterns → s.events ≡ r.events → s ≡ r
same_sums s r a b c d e = λ i. record { yes = a i; unknown = b i; no = c i; patterns = d i; events = e i }

behind_none : (s : Sums) → s ≡ behind s []
unfolding behind sum_of
behind_none s = same_sums s (behind s []) (omega arith) (omega arith) (omega arith) (omega arith) refl

behind_counted : (s : Sums) (t : Total) (cs : List Counting) → behind (grown s t) cs ≡ behind s (Ok t ∷ cs)
unfolding behind grown sum_of yes_of unknown_of no_of pattern_of
behind_counted s t cs =
    same_sums (behind (grown s t) cs) (behind s (Ok t ∷ cs)) (omega arith) (omega arith) (omega arith)
    (omega arith) refl

behind_refused : (s : Sums) (r : Refusal) (cs : List Counting) → behind s cs ≡ behind s (Err r ∷ cs)
unfolding behind sum_of yes_of unknown_of no_of pattern_of
behind_refused s r cs =
    same_sums (behind s cs) (behind s (Err r ∷ cs)) (omega arith) (omega arith) (omega arith) (omega arith) refl

behind_all : (n : ℕ) (cs : List Counting) → behind (no_sums n) cs ≡ sums_of n cs
unfolding behind no_sums sums_of
behind_all n cs =
    same_sums (behind (no_sums n) cs) (sums_of n cs) (omega arith) (omega arith) (omega arith) (omega arith) refl

full_stays : (cs : List Counting) → added_all None cs ≡ None
unfolding added_all
full_stays [] = refl
full_stays (c ∷ cs) = refl

all_added : (cs : List Counting) (s r : Sums) → added_all (Some s) cs ≡ Some r → r ≡ behind s cs
unfolding added_all added_to
all_added [] s r e = let f : r ≡ s = cc in f ∙ behind_none s
all_added (Ok t ∷ cs) s r e = go (fit (grown s t)) e (all_added cs (grown s t) r)
  where
    go : (b : Bool) → added_all (if b then Some (grown s t) else None) cs ≡ Some r
        → (added_all (Some (grown s t)) cs ≡ Some r → r ≡ behind (grown s t) cs)
        → r ≡ behind s (Ok t ∷ cs)
    go true h f = f h ∙ behind_counted s t cs
    go false h f =
        let z : None ≡ Some r = sym (full_stays cs) ∙ h in
        let y : ◌≡◌ {A = ℕ} 0 1 = cc in absurd (omega arith)
all_added (Err q ∷ cs) s r e = all_added cs s r e ∙ behind_refused s q cs

pub sums_exact : (n : ℕ) (cs : List Counting) (r : Sums) → added_all (Some (no_sums n)) cs ≡ Some r
    → r ≡ sums_of n cs
sums_exact n cs r e = all_added cs (no_sums n) r e ∙ behind_all n cs

-- there is room for m patterns more
record Roomy (s : Sums) (m : ℕ) : Type 0 where
  yeses : s.yes + m * 65534 < word
  unknowns : s.unknown + m * 65534 < word
  noes : s.no + m * 65534 < word
  all : s.patterns + m < word

roomy_next : {s : Sums} {m : ℕ} (t : Total) → Roomy s (suc m) → Modest (Ok t) → Roomy (grown s t) m
unfolding grown yes_of unknown_of no_of
roomy_next t r k =
    record {
      yeses = omega (arith, r.yeses, k.yeses);
      unknowns = omega (arith, r.unknowns, k.unknowns);
      noes = omega (arith, r.noes, k.noes);
      all = omega (arith, r.all);
    }

roomy_fit : {s : Sums} {m : ℕ} → Roomy s m → fit s ≡ true
unfolding fit
roomy_fit {s} r =
    rw (
      lt-ltb s.yes word (omega (arith, r.yeses)),
      lt-ltb s.unknown word (omega (arith, r.unknowns)),
      lt-ltb s.no word (omega (arith, r.noes)),
      lt-ltb s.patterns word (omega (arith, r.all)),
    )
    refl

all_fit : {cs : List Counting} (s : Sums) → All Modest cs → Roomy s (length cs)
    → added_all (Some s) cs ≡ Some (behind s cs)
unfolding added_all added_to
all_fit s none r = ap Some (behind_none s)
all_fit s (more {x = Ok t} {xs = cs} k ks) r =
    let q = roomy_next t r k in
    rw (roomy_fit q) (all_fit (grown s t) ks q ∙ ap Some (behind_counted s t cs))
all_fit s (more {x = Err p} {xs = cs} k ks) r =
    all_fit s ks
    (record {
      yeses = omega (arith, r.yeses);
      unknowns = omega (arith, r.unknowns);
      noes = omega (arith, r.noes);
      all = omega (arith, r.all);
    })
    ∙ ap Some (behind_refused s p cs)

pub never_full : {cs : List Counting} (n : ℕ) → length cs < 2 ^ 48 → All Modest cs
    → added_all (Some (no_sums n)) cs ≡ Some (sums_of n cs)
unfolding no_sums
never_full {cs} n l k =
    all_fit (no_sums n) k
    (record { yeses = omega arith; unknowns = omega arith; noes = omega arith; all = omega arith })
    ∙ ap Some (behind_all n cs)

-- the totals of a text on a trace of n rows are n-1 together
pub counted_modest : {ρ : Rules} {names : List ℕ} {n : ℕ} {states text : List ℕ} (c : Counting)
    → CountsText ρ names n states text c → Modest c
unfolding CountsIn yes_of unknown_of no_of
counted_modest {ρ} {names} {n} {states} (Ok t) h =
    let (some, few) = counted_rows h in
    let k = h.comes.1 in
    let e = totals_sum (state_at ρ (names_in names) states) (meant ρ k.pattern) n some in
    let y = k.totals.yeses in
    let u = k.totals.unknowns in
    let o = k.totals.noes in
    record { yeses = omega arith; unknowns = omega arith; noes = omega arith }
counted_modest {ρ} (Err r) h = record { yeses = omega arith; unknowns = omega arith; noes = omega arith }

pub table_never_full : {ρ : Rules} {names : List ℕ} {n : ℕ} {states : List ℕ} {cs : List Counting}
    → All (CountedOn ρ names n states) cs → length cs < 2 ^ 48
    → added_all (Some (no_sums n)) cs ≡ Some (sums_of n cs)
table_never_full {ρ} {n = n} k l = never_full n l (all_weaken (λ c h. counted_modest c h.counts) k)
