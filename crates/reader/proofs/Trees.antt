-- The pass over the nodes of a tree, from the parser's lists to what is read.
--   all_at            what holds of each token holds of each entry of a list of the parser's
--   handed_nodes      the parser's lists hold the nodes
--   nodes_handed      what the pass asks of them
--   pass_tree, answer_stopped, answer_wrong, answer_read     what the pass comes to: 7 at an operator, 7 at the text's
--                     length, the tree
use Rattle.std.specs.Prelude.{Ok, Err}
use Rattle.basics.specs.declared.Refusal.{Refusal}
use mathlib.Core.Path.{◌≡◌, refl, sym, ap, ◌∙◌}
use mathlib.Core.Bool.{true, false}
use mathlib.Core.List.{List, [], ◌∷◌, ◌++◌, map}
use Prim.Native.Nat.{ℕ, zero, suc, ◌-◌, ◌≤◌, ◌<◌}
use native.Mathlib.Omega.{arith}
use lib.ListN.{length, get_or, replicate, length-map}
use Rattle.alf.specs.declared.Sort.{Sort}
use Rattle.alf.specs.declared.Sort.TheVariants as the_sort
use Rattle.alf.specs.Expressions.{Expression, boolean, vector}
use Rattle.basics.proofs.Bools.{never}
use Rattle.basics.specs.Refusing.{refusal_over_lem}
use Rattle.basics.proofs.AllEntries.{All, none, more}
use Rattle.basics.proofs.Stores.{front_take, front_length}
use Rattle.grammar.specs.declared.Token.{Token}
use Rattle.grammar.specs.declared.Parsed.{Parsed}
use Rattle.grammar.specs.Tokens.{tokens}
use Rattle.grammar.specs.Grammar.{Tree, nodes}
use Rattle.grammar.specs.Answers.{padded, handed, codes_of, places_of, accepted}
use Rattle.grammar.specs.Written.{Formed}
use Rattle.sorting.specs.declared.sorts.Sorting.{Sorting}
use Rattle.sorting.specs.Lookup.{number_at}
use Rattle.sorting.specs.Sorts.{Sorted, is, faulty, given, asked, sorted}
use Rattle.sorting.specs.Passes.{going, stopped, settled, is_node, is_vector, stack_bytes}
use Rattle.sorting.specs.Passes.{Shows, goes, stops, Handed, Shown, sort_at}
use Rattle.reader.specs.Reads.{made, shown_at, refused_at, answered, has_sort, Grown}
use Rattle.reader.proofs.ShownTokens.{sorted_within, stopped_within}
use Rattle.sorting.proofs.NodeCodes.{formed_nodes}
use Rattle.sorting.proofs.NodeRuns.{run_tree}
use Rattle.sorting.proofs.Stacks.{top_sort, shows_depth, shows_stopped}

pub all_at :
    (Q : ℕ → Type 0) (f : Token → ℕ) {ns : List Token} →
    All (λ t. Q (f t)) ns →
    (zs : List ℕ) (i : ℕ) →
    i < length ns →
    Q (get_or (map f ns ++ zs) i 0)
all_at Q f none zs i h = absurd (omega arith)
all_at Q f (more q qs) zs zero h = q
all_at Q f (more q qs) zs (suc i) h = all_at Q f qs zs i (omega arith)

padded_length : (xs : List ℕ) → length xs ≤ 256 → length (padded xs) ≡ 256
padded_length xs h = front_length (replicate 256 0) xs h

-- the parser's lists hold the nodes
tokens_of_lem : (ns : List Token) → tokens (codes_of ns) (places_of ns) ≡ ns
unfolding tokens
tokens_of_lem [] = refl
tokens_of_lem (n ∷ ns) = ap (λ (ts : List Token). n ∷ ts) (tokens_of_lem ns)

pub handed_nodes : (ns : List Token) → handed (padded (codes_of ns)) (padded (places_of ns)) (length ns) ≡ ns
handed_nodes ns =
    rw (
      front_take (replicate 256 0) (codes_of ns) (length ns)
          (length-map ns (λ (t : Token). t.code)),
      front_take (replicate 256 0) (places_of ns) (length ns)
          (length-map ns (λ (t : Token). t.place)),
    )
    (tokens_of_lem ns)

-- what the pass asks of them
pub nodes_handed : {names text : List ℕ} {p : Parsed} → Grown names text p
    → Handed names text p.codes p.places p.len
nodes_handed {names} {text} {p} g =
    rw g.is_tree
    (record {
      few = g.few;
      short = g.short;
      listed =
          record {
            codes_hold = omega (arith, g.short, padded_length (codes_of ns) (omega (arith, g.short, cl)), cl);
            places_hold = omega (arith, g.short, padded_length (places_of ns) (omega (arith, g.short, pl)), pl);
            inside = λ i l. all_at (λ q. q ≤ length text) (λ t. t.place) g.inside _ i l;
          };
      known = λ i l. all_at (λ c. is_node c ≡ true) (λ t. t.code) (formed_nodes g.formed) _ i l;
    })
  where
    ns : List Token
    ns = nodes g.tree

    cl : length (codes_of ns) ≡ length ns
    cl = length-map ns (λ (t : Token). t.code)

    pl : length (places_of ns) ≡ length ns
    pl = length-map ns (λ (t : Token). t.place)

-- what the pass comes to
pub pass_tree :
    {names text : List ℕ} {p : Parsed} {s : Sorting} (e : Tree) →
    Formed e →
    p ≡ accepted (nodes e) →
    Shown names text p.codes p.places p.len s →
    Shows s (settled (sorted (number_at names text) e) [])
pass_tree {names} {text} e f q h =
    let w = rw q at h.shows in
    rw (← run_tree (number_at names text) f []) (rw (handed_nodes (nodes e)) at w)

-- the place where the pass stops is a node's
pub stopped_inside :
    {names text : List ℕ} {p : Parsed} {s : Sorting} →
    Grown names text p →
    Shown names text p.codes p.places p.len s →
    s.ok ≡ false →
    s.place ≤ length text
stopped_inside {names} {text} g h e =
    stopped_within (λ q. q ≤ length text) _ (pass_tree g.tree g.formed g.is_tree h) e
    (sorted_within (λ q. q ≤ length text) (number_at names text) g.tree g.inside)

-- the sort asked for
sort_refused : (o : Sort) (x : Expression) (bytes : ℕ) → has_sort o (is_vector x) ≡ false
    → asked o bytes x ≡ faulty bytes
unfolding has_sort asked is_vector
sort_refused the_sort.Boolean (boolean c) bytes e = never (sym e)
sort_refused the_sort.Boolean (vector p) bytes e = refl
sort_refused the_sort.Vector (boolean c) bytes e = refl
sort_refused the_sort.Vector (vector p) bytes e = never (sym e)

sort_taken : (o : Sort) (x : Expression) (bytes : ℕ) → has_sort o (is_vector x) ≡ true → asked o bytes x ≡ is x
unfolding has_sort asked is_vector
sort_taken the_sort.Boolean (boolean c) bytes e = refl
sort_taken the_sort.Boolean (vector p) bytes e = never e
sort_taken the_sort.Vector (boolean c) bytes e = never e
sort_taken the_sort.Vector (vector p) bytes e = refl

-- what is shown at the end is what is read
shown_made : {s : Sorting} (x : Expression) → Shows s (going (x ∷ []))
    → record { len = s.len; tree = s.tree } ≡ made x
unfolding made stack_bytes
shown_made x (goes o d k l t) = rw (l, t)

module _ {s : Sorting} (sort : Sort) (text : List ℕ) where
  stopped_at_lem : {p : ℕ} → Shows s (stopped p) → p ≡ s.place
  stopped_at_lem (stops o) = refl

  pub answer_stopped :
      (q : Sorted) → Shows s (settled q []) → s.ok ≡ false → {r : Refusal}
      → r ≡ refusal_over_lem 7 s.place (shown_at text s.place)
      → Err r ≡ answered text (given q (asked sort (length text)))
  unfolding settled given answered
  answer_stopped (is x) (goes o d k l t) e f = never (sym e ∙ o)
  answer_stopped (faulty p) w e f = ap Err f ∙ ap (refused_at text 7) (sym (stopped_at_lem w))

  top_is : {x : Expression} → Shows s (going (x ∷ [])) → get_or s.sorts 0 false ≡ is_vector x
  unfolding sort_at
  top_is {x} w =
      let e : s.depth - 1 - 0 ≡ 0 = omega (arith, shows_depth w) in rw e at (top_sort 0 x w (omega arith))

  pub answer_wrong :
      (q : Sorted) →
      Shows s (settled q []) →
      s.ok ≡ true →
      has_sort sort (get_or s.sorts 0 false) ≡ false →
      {r : Refusal} →
      r ≡ refusal_over_lem 7 (length text) (shown_at text (length text)) →
      Err r ≡ answered text (given q (asked sort (length text)))
  unfolding settled given answered
  answer_wrong (is x) w o e f =
      ap Err f ∙ ap (answered text) (sym (sort_refused sort x (length text) (rw (top_is w) at e)))
  answer_wrong (faulty p) w o e f = never (sym (shows_stopped w) ∙ o)

  pub answer_read :
      (q : Sorted) →
      Shows s (settled q []) →
      s.ok ≡ true →
      has_sort sort (get_or s.sorts 0 false) ≡ true →
      Ok (record { len = s.len; tree = s.tree }) ≡ answered text (given q (asked sort (length text)))
  unfolding settled given answered
  answer_read (is x) w o e =
      ap Ok (shown_made x w) ∙ ap (answered text) (sym (sort_taken sort x (length text) (rw (top_is w) at e)))
  answer_read (faulty p) w o e = never (sym (shows_stopped w) ∙ o)
