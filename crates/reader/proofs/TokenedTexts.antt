-- What the parts of the call ask and find, for a text whose tokens are read.
--   listed, handed-over     what the search for names and the parser ask of the tokens
--   grown                   what the pass over the nodes asks of the parser's answer
--   whole_five, whole_six, whole_sorted     what each way comes to
use Rattle.std.specs.Prelude.{Result, Err}
use Rattle.basics.specs.declared.Refusal.{Refusal}
use Rattle.basics.specs.Refusing.{refusal_over_lem}
use mathlib.Core.Path.{◌≡◌, refl, sym, ap, ◌∙◌}
use mathlib.Core.Bool.{true, false}
use mathlib.Core.List.{List, map}
use mathlib.Core.Logic.{◌⊎◌, inl, inr}
use Prim.Native.Nat.{ℕ, ◌≤◌, ◌<◌}
use native.Mathlib.Omega.{arith}
use lib.ListN.{length, get_or}
use Rattle.alf.specs.declared.Rules.{Rules}
use Rattle.alf.specs.declared.Sort.{Sort}
use Rattle.alf.specs.Refusals.{Passed, no_grammar}
use Rattle.basics.proofs.Bools.{below?}
use Rattle.names.proofs.Few.{names_few}
use Rattle.tokens.specs.declared.Tokens.{Tokens}
use Rattle.tokens.specs.Texts as text
use Rattle.tokens.specs.Texts.{Reads, order}
use Rattle.tokens.specs.Tokenizing as reading
use Rattle.tokens.specs.Tokenizing.{filled}
use Rattle.tokens.proofs.Filling.{column_length, filled_at, filled_holds}
use Rattle.tokens.proofs.Places.{reads_rising}
use Rattle.grammar.specs.declared.Parsed.{Parsed}
use Rattle.grammar.specs.Tokens.{counted}
use Rattle.grammar.specs.Grammar as grammar
use Rattle.grammar.specs.Grammar.{Tree}
use Rattle.grammar.specs.Answers as answers
use Rattle.grammar.specs.Answers.{handed, Answer}
use Rattle.grammar.proofs.Outcome.{parse_sound}
use Rattle.grammar.proofs.RowFive.{row_sound}
use Rattle.grammar.proofs.Fewest.{counted_nodes}
use Rattle.grammar.proofs.Written.{expression_formed}
use Rattle.reader.specs.declared.Read.{Read}
use Rattle.sorting.specs.Lookup.{is_unknown, unknown_at}
use Rattle.sorting.specs.Sorts.{Sorted, is, faulty}
use Rattle.reader.specs.Texts.{tokens_of}
use Rattle.sorting.specs.Passes.{Listed}
use Rattle.reader.specs.Reads.{shown_at, answered, Grown, Answered}
use Rattle.reader.specs.Reading.{sorted_in, Unknown, Unlimited, refused, unlimited}
use Rattle.reader.specs.Tokened.{Tokened}
use Rattle.sorting.proofs.SlotNumbers.{first_same}
use Rattle.reader.proofs.Filled.{place_inside, handed_filled}
use Rattle.reader.proofs.Texts.{reads_inside, reads_rises, few_counted, nodes_inside}
use Rattle.reader.proofs.Unknowns.{unknown_here, unknown_never}
use Rattle.reader.proofs.ShownTokens.{stuck_place}
use Rattle.reader.proofs.Readings.{five, six, seven}
use Rattle.tokens.proofs.Handing.{reads_short}

pub text_short : (bytes : List ℕ) → Passed (order bytes) → length bytes ≤ 4096
unfolding Passed order
text_short bytes h = go (below? 4096 (length bytes))
  where
    go : (4096 < length bytes) ⊎ (length bytes ≤ 4096) → length bytes ≤ 4096
    go (inl l) = absurd (h.0 4096 (record { given = l; there = refl }))
    go (inr l) = l

few_tokens : (bytes : List ℕ) {ts : List text.Token} → Passed (order bytes) → Reads 0 bytes ts
    → counted (tokens_of ts) ≤ 256
unfolding Passed order
few_tokens bytes h r = few_counted bytes r h.1.1.1.0

module _ {names bytes : List ℕ} {t : Tokens} (k : Tokened names bytes t) where
  abbrev ts : List text.Token
  ts = k.tokens

  codes_are : t.codes ≡ filled (reading.codes_of ts)
  unfolding reading.made
  codes_are = ap (λ (x : Tokens). x.codes) k.are

  places_are : t.places ≡ filled (reading.places_of ts)
  unfolding reading.made
  places_are = ap (λ (x : Tokens). x.places) k.are

  count_is : t.count ≡ length ts
  unfolding reading.made
  count_is = ap (λ (x : Tokens). x.count) k.are

  pub count_small : t.count ≤ 4096
  count_small = omega (arith, count_is, reads_short k.read, text_short bytes k.clear)

  pub short : length bytes ≤ 4096
  short = text_short bytes k.clear

  tokens_are : handed t.codes t.places t.count ≡ tokens_of ts
  unfolding reading.made
  tokens_are = ap (λ (x : Tokens). handed x.codes x.places x.count) k.are ∙ handed_filled ts

  -- a list of a column holds all tokens
  held : (f : text.Token → ℕ) {l : List ℕ} → l ≡ filled (map f ts) → t.count ≤ length l
  held f e = omega (arith, ap length e, count_is, column_length f ts, filled_holds (map f ts))

  pub parse_asked : answers.Handed t.codes t.places t.count
  parse_asked =
      record {
        codes_hold = held (λ t. t.code) codes_are;
        places_hold = held (λ t. t.place) places_are;
        few = rw tokens_are (few_tokens bytes k.clear k.read);
      }

  place_at : (i : ℕ) → i < t.count → get_or t.places i 0 ≡ get_or (reading.places_of ts) i 0
  place_at i l =
      ap (λ (xs : List ℕ). get_or xs i 0) places_are
      ∙ filled_at (reading.places_of ts) i (omega (arith, column_length (λ t. t.place) ts, count_is))

  code_at : (i : ℕ) → i < t.count → get_or t.codes i 0 ≡ get_or (reading.codes_of ts) i 0
  code_at i l =
      ap (λ (xs : List ℕ). get_or xs i 0) codes_are
      ∙ filled_at (reading.codes_of ts) i (omega (arith, column_length (λ t. t.code) ts, count_is))

  inside : (i : ℕ) → i < t.count → get_or t.places i 0 ≤ length bytes
  inside i l =
      rw (place_at i l)
      (place_inside ts (length bytes) i (reads_inside (length bytes) k.read (omega arith)) (omega (arith, count_is)))

  pub names_asked : Listed bytes t.codes t.places t.count
  names_asked =
      record {
        codes_hold = parse_asked.codes_hold;
        places_hold = parse_asked.places_hold;
        inside = inside;
      }

  -- the search for names, without the zeros
  found_at :
      {u : ℕ} →
      u ≡ unknown_at names bytes t.codes t.places t.count →
      u ≡ unknown_at names bytes (reading.codes_of ts) (reading.places_of ts) (length ts)
  found_at e =
      e
      ∙ first_same t.count
      (λ i. is_unknown names bytes (get_or t.codes i 0) (get_or t.places i 0))
      (λ i. is_unknown names bytes (get_or (reading.codes_of ts) i 0) (get_or (reading.places_of ts) i 0))
      (λ i l. rw (code_at i l, place_at i l) refl)
      ∙ ap (λ (n : ℕ). unknown_at names bytes (reading.codes_of ts) (reading.places_of ts) n) count_is

  module _ (sort : Sort) {p : Parsed} (a : Answer (handed t.codes t.places t.count) (length bytes) p) where
    answer : Answer (tokens_of ts) (length bytes) p
    answer = rw tokens_are at a

    stuck_there : p.ok ≡ false → no_grammar (answers.Stuck (tokens_of ts) (length bytes)) p.place
    stuck_there o = row_sound (reads_rises (length bytes) k.read (omega arith)) answer o

    pub five_inside : p.ok ≡ false → p.place ≤ length bytes
    five_inside o =
        stuck_place (λ q. q ≤ length bytes) (reads_inside (length bytes) k.read (omega arith)) (omega arith)
        (stuck_there o).given

    pub whole_five : (ρ : Rules) → p.ok ≡ false → {r : Refusal}
        → r ≡ refusal_over_lem 5 p.place (shown_at bytes p.place) → Unlimited ρ names bytes sort (Err r)
    whole_five ρ o e =
        rw e
        (refused _
        (five ρ names bytes sort k.good k.clear k.read p.place (stuck_there o)))

    module _ (o : p.ok ≡ true) {u : ℕ} (f : u ≡ unknown_at names bytes t.codes t.places t.count) where
      pub whole_six : (ρ : Rules) → u < t.count → {r : Refusal}
          → r ≡ refusal_over_lem 6 (get_or t.places u 0) (shown_at bytes (get_or t.places u 0))
          → Unlimited ρ names bytes sort (Err r)
      whole_six ρ l e =
          let (tree, w, q) = parse_sound answer o in
          let g = found_at f in
          let h : u < length ts = omega (arith, count_is) in
          rw (e, place_at u l)
          (refused _
          (six ρ names bytes sort k.good k.clear k.read w _
          (rw (sym g) at (unknown_here names bytes ts (reads_rising k.read) (rw g at h)))))

      pub grown : Grown names bytes p
      grown =
          let (e, w, q) = parse_sound answer o in
          record {
            few = names_few names k.good;
            tree = e;
            formed = expression_formed w;
            short = omega (arith, counted_nodes w, few_tokens bytes k.clear k.read);
            inside = nodes_inside w (reads_inside (length bytes) k.read (omega arith));
            is_tree = q;
          }

      pub whole_sorted : (ρ : Rules) → t.count ≤ u → {r : Result Read Refusal} → Answered names bytes p sort r
          → Unlimited ρ names bytes sort r
      unfolding answered
      whole_sorted ρ l {r} h =
          let (e, w, q) = parse_sound answer o in
          let known = unknown_never names bytes ts (reads_rising k.read) (omega (arith, found_at f, count_is)) in
          by_sort e w known (sorted_in names bytes sort e) refl (h.given e (expression_formed w) q)
        where
          by_sort :
              (e : Tree) →
              grammar.Expression (tokens_of ts) e →
              ((p : ℕ) → Unknown names bytes ts p → ⊥) →
              (q : Sorted) →
              sorted_in names bytes sort e ≡ q →
              r ≡ answered bytes q →
              Unlimited ρ names bytes sort r
          by_sort e w known (is x) s d =
              rw d
              (unlimited
              (record {
                good = k.good;
                clear = k.clear;
                tokens = ts;
                read = k.read;
                tree = e;
                whole = w;
                known = known;
                sorts = s;
              }))
          by_sort e w known (faulty v) s d =
              rw d (refused _ (seven ρ names bytes sort k.good k.clear k.read w known v s))
