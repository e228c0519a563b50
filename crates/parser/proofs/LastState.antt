-- From the last state to the answer.
--   finished_end, finished_more          read_all
--   Column, column_first, column_next, column_end, accepted_all     accept, which writes codes and places
--   given, full, answer_tree, answer_refused                        parse
use Rattle.std.specs.Prelude.{if◌then◌else◌}
use Prim.Native.Nat.{ℕ, ◌+◌, ◌≤◌, ◌<◌}
use native.Mathlib.Omega.{arith}
use mathlib.Core.Path.{◌≡◌, refl, sym, ap, ◌∙◌}
use mathlib.Core.Bool.{Bool, true, false}
use mathlib.Core.List.{List, [], map}
use lib.ListN.{length, get_or, set, replicate, take, drop, length-map, drop_of_length-le, length-drop}
use lib.Seq.{length-take-le, get_or-take}
use Rattle.basics.proofs.Entries.{get_d_map}
use Rattle.basics.proofs.Stores.{Writing, writing_next_front, writing_front}
use Rattle.grammar.specs.declared.Token.{Token}
use Rattle.grammar.specs.declared.Parsed.{Parsed}
use Rattle.grammar.specs.Tokens.{tokens}
use Rattle.grammar.specs.Grammar.{place_of}
use Rattle.grammar.specs.Answers.{Handed, place_at, padded, codes_of, places_of}
use Rattle.grammar.specs.Answers.{accepted, refused_at, Answer, tree, no_tree}
use Rattle.grammar.specs.Views.{going, stopped, nothing, Ends, whole, refused}
use Rattle.grammar.proofs.Refusals.{left, ends, ends_halted}
use Rattle.parser_steps.specs.declared.State.{State}
use Rattle.parser_steps.specs.Inner.{token_at, picked, view, Halted}
use Rattle.parser_levels.specs.Inner.{Ran}
use Rattle.parser.specs.Inner.{Given, Finished, Full}
use Rattle.parser_steps.proofs.CodeTokens.{tokens_length, counts_tokens, place_at_of}
use Rattle.parser_steps.proofs.SingleSteps.{used_small, view_halt, moved_halt}

view_left : (cs ps : List ℕ) (s : State) (ns : List ℕ) → left (view cs ps s ns) ≡ drop s.at (tokens cs ps)
unfolding view
view_left cs ps s ns = go s.ok
  where
    rest : List Token
    rest = drop s.at (tokens cs ps)

    go : (b : Bool) → left (if b then going rest (picked cs ps (take s.len ns)) else stopped rest) ≡ rest
    go true = refl
    go false = refl

-- read_all
module _ {cs : List ℕ} {s : State} {n : List ℕ} {r : State} {n₁ : List ℕ}
    (first : (ps : List ℕ) → view cs ps s n ≡ going (tokens cs ps) []) (rn : Ran 6 cs s n r n₁)
  where
    pub finished_end : length cs ≤ r.at → Finished cs r n₁
    finished_end h =
        record {
          fine = rn.moved.fine;
          whole = rn.whole;
          ends = λ ps even.
              ends (rw (first ps) at (rn.does ps even))
              (view_left cs ps r n₁
              ∙ drop_of_length-le (tokens cs ps) {i = r.at} (omega (arith, tokens_length cs ps even)));
        }

    pub finished_more : {q : State} → r.at < length cs → Halted r q → Finished cs q n₁
    finished_more h hl =
        record {
          fine = (moved_halt cs hl rn.moved.fine).fine;
          whole = rn.whole;
          ends = λ ps even.
              rw (view_halt cs hl ps n₁)
              (ends_halted (rw (first ps) at (rn.does ps even))
              (rw (view_left cs ps r n₁)
              (omega (arith, length-drop r.at (tokens cs ps), tokens_length cs ps even))));
        }

-- accept: f of the first nodes, and zeros behind them
module _ (f : Token → ℕ) (cs ps ns : List ℕ) (len : ℕ) where
  abbrev pub Column : List ℕ → ℕ → Type 0
  Column l i = Writing (replicate 256 0) 0 (map f (picked cs ps (take len ns))) l i

  module _ (h : len ≤ length ns) where
    nodes_length : length (take len ns) ≡ len
    nodes_length = length-take-le len ns h

    column_length : length (map f (picked cs ps (take len ns))) ≡ len
    column_length =
        length-map (picked cs ps (take len ns)) f ∙ length-map (take len ns) (token_at cs ps) ∙ nodes_length

    column_at : (i : ℕ) → i < len
        → f (token_at cs ps (get_or ns i 0)) ≡ get_or (map f (picked cs ps (take len ns))) i 0
    column_at i l =
        let n = nodes_length in
        let m = length-map (take len ns) (token_at cs ps) in
        sym
        (get_d_map f (picked cs ps (take len ns)) i nothing 0 (omega arith)
        ∙ ap f (get_d_map (token_at cs ps) (take len ns) i 0 nothing (omega arith))
        ∙ ap (λ (k : ℕ). f (token_at cs ps k)) (get_or-take len ns i 0 l))

    pub column_next : {l : List ℕ} {i v : ℕ} → Column l i → i < len → v ≡ f (token_at cs ps (get_or ns i 0))
        → Column (set l i v) (i + 1)
    column_next {i = i} g k e = writing_next_front g (omega (arith, column_length)) (e ∙ column_at i k)

    pub column_end : {l : List ℕ} {i : ℕ} → Column l i → len ≤ i → len ≤ 256
        → l ≡ padded (map f (picked cs ps (take len ns)))
    column_end g k small = writing_front g (omega (arith, column_length)) (omega (arith, column_length))

pub accepted_all :
    (cs ps ns : List ℕ) {n i : ℕ} {codes places : List ℕ} → Full n ns → n ≤ i →
    Column (λ t. t.code) cs ps ns n codes i → Column (λ t. t.place) cs ps ns n places i →
    record { ok = true; place = 0; len = n; codes = codes; places = places } ≡ accepted (picked cs ps (take n ns))
accepted_all cs ps ns {n} f h g k =
    let few : n ≤ length ns = omega arith in
    rw (
      column_end (λ t. t.code) cs ps ns n few g h f.below,
      column_end (λ t. t.place) cs ps ns n few k h f.below,
    )
    (ap
    (λ (m : ℕ).
    record {
      ok = true;
      place = 0;
      len = m;
      codes = padded (codes_of (picked cs ps (take n ns)));
      places = padded (places_of (picked cs ps (take n ns)));
    })
    (sym (length-map (take n ns) (token_at cs ps) ∙ length-take-le n ns few)))

-- parse
pub evenly : {codes places : List ℕ} {count : ℕ} → Handed codes places count
    → length (take count places) ≡ length (take count codes)
evenly {codes} {places} {count} h =
    length-take-le count places h.places_hold ∙ sym (length-take-le count codes h.codes_hold)

pub given : {codes places : List ℕ} {count : ℕ} → Handed codes places count
    → Given (take count codes) (replicate 256 0)
given {codes} {places} {count} h =
    let same = counts_tokens (take count codes) (take count places) (evenly h) in
    record { small = omega (arith, h.few); whole = refl }

pub full : {cs : List ℕ} {s : State} {ns : List ℕ} → Finished cs s ns → Full s.len ns
full f = record { below = omega (arith, used_small f.fine); whole = f.whole }

ends_tree :
    {ts x out : List Token} {bytes : ℕ} {r : Parsed} → Ends ts (going x out) → r ≡ accepted out →
    Answer ts bytes r
ends_tree (whole p e) q = tree p (q ∙ ap accepted e)

ends_refused :
    {ts rest : List Token} {bytes : ℕ} {r : Parsed} →
    Ends ts (stopped rest) →
    r ≡ refused_at (place_of bytes rest) →
    Answer ts bytes r
ends_refused (refused f) q = no_tree f q

module _ (cs ps : List ℕ) {s : State} {ns : List ℕ} {bytes : ℕ} {r : Parsed} (even : length ps ≡ length cs)
    (f : Finished cs s ns)
  where
    pub answer_tree : s.ok ≡ true → r ≡ accepted (picked cs ps (take s.len ns))
        → Answer (tokens cs ps) bytes r
    unfolding view
    answer_tree e q = ends_tree (rw e at (f.ends ps even)) q

    pub answer_refused : {p : ℕ} → s.ok ≡ false → p ≡ place_at ps s.at bytes → r ≡ refused_at p
        → Answer (tokens cs ps) bytes r
    unfolding view
    answer_refused e q w =
        ends_refused (rw e at (f.ends ps even)) (w ∙ ap refused_at (q ∙ place_at_of cs ps s.at bytes even))
