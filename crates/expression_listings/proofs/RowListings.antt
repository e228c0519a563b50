-- What the rows of a trace come to, listed, for a tree that is accepted: 18, 15, 9.
--   lent_comes                       lists that are right and a tree that is accepted are asked no more
--   pattern_listed                   of a pattern: the call for its tree, of whose refusals 10 is not given
--   states_refused, states_listed    of a boolean expression: the call over rows, and what it wrote is listed
--   too_many                         more than 65,535 rows
--   tree_vector, tree_boolean        the listing of what an accepted tree is, by its sort
--   text_as, accepted_as             the same of another text, of another sort
use Rattle.std.specs.Prelude.{Err, Ok}
use Prim.Native.Nat.{ℕ, ◌+◌, ◌*◌, ◌<◌, ◌≤◌}
use native.Mathlib.Omega.{arith}
use mathlib.Core.Path.{◌≡◌, refl, ap, sym, ◌∙◌}
use mathlib.Core.Logic.{◌⊎◌, inl, inr}
use mathlib.Core.List.{List, [], ◌∷◌}
use lib.ListN.{length, get_or, get_or-eq_default}
use Rattle.basics.specs.Refusing.{refusal}
use Rattle.alf.specs.declared.Rules.{Rules}
use Rattle.alf.specs.declared.Sort.{Sort}
use Rattle.alf.specs.declared.Sort.TheVariants as the_sort
use Rattle.basics.specs.declared.Refusal.{Refusal}
use Rattle.basics.specs.Refusing.{Outcome}
use Rattle.basics.specs.Words.{listed}
use Rattle.alf.specs.Expressions.{Vector, boolean, vector, Over, ExpressionOver}
use Rattle.alf.specs.Decoder.{top_boolean, top_vector, Decodes}
use Rattle.alf.specs.Values.{row_of, value_at}
use Rattle.alf.specs.Refusals.{Order, check, bad_lists, bad_code, no_room, RefusedWith, RefusedBy, Passed, Comes}
use Rattle.basics.proofs.Bools.{below?}
use Rattle.alf.proofs.Decoding.{decode_over}
use Rattle.basics.proofs.Listed.{listed_length}
use Rattle.alf.proofs.Orders.{none_first, by_first}
use Rattle.alf.specs.Steady.{meant}
use Rattle.trees.specs.Parts.{boolean_at, vector_at}
use Rattle.acceptance.specs.Accepted.{Accepted}
use Rattle.acceptance.proofs.Acceptance.{decoded, accepted_decodes}
use Rattle.text_laws.proofs.ReadTrees.{sorted_vector, sorted_boolean}
use Rattle.states.specs.FirstBadCode.{Codes}
use Rattle.judging.specs.Orders as calls
use Rattle.judging.specs.Orders.{Rows, order}
use Rattle.row_calls.specs.Written.{AllValues}
use Rattle.basics.specs.Memory.{after}
use Rattle.listing.specs.Listing.{values_listing}
use Rattle.column_listings.specs.Calls.{list_order, ValuesText}
use Rattle.tree_listings.specs.TreeTexts.{pattern_listing, ListsTree}
use Rattle.tree_listings.proofs.TreeTexts.{listed_most}
use Rattle.expression_listings.specs.TreeListings.{value_listing, rows_order, RowsText, listing_of, tree_listing}
use Rattle.expression_listings.proofs.ValueCodes.{value_code}

-- 18 with lists lent that are right, 10 with a tree that is accepted, and what comes then
lent_18 : (lent P : Type 0) → ((p : ℕ) → bad_lists (lent × P) p → ⊥) → (p : ℕ) → bad_lists P p → ⊥
lent_18 lent P n p a = n p (record { given = λ w. a.given w.1; there = a.there })

module _ (lent P Q : Type 0) (l : lent) (q : Q) (rest : Order) where
  lent_refused : (n p : ℕ) → RefusedWith (order (lent × P) Q rest) n p
      → RefusedWith (check 18 (bad_lists P) ∷ rest) n p
  unfolding RefusedWith
  lent_refused n p (inl (e, h)) = inl (e, record { given = λ w. h.given (l, w); there = h.there })
  lent_refused n p (inr (k, inl (e, h))) = absurd (h.given q)
  lent_refused n p (inr (k, inr (m, h))) = inr (lent_18 lent P k, h)

  lent_by : {r : Refusal} → RefusedBy (order (lent × P) Q rest) r → RefusedBy (check 18 (bad_lists P) ∷ rest) r
  lent_by h = record { by = lent_refused _ _ h.by; bare = h.bare }

  lent_passed : Passed (order (lent × P) Q rest) → Passed (check 18 (bad_lists P) ∷ rest)
  unfolding Passed
  lent_passed (k, (m, h)) = (lent_18 lent P k, h)

  pub lent_comes : (made : ℕ → Type 0) (r : Outcome) → Comes (order (lent × P) Q rest) made r
      → Comes (check 18 (bad_lists P) ∷ rest) made r
  unfolding Comes
  lent_comes made (Ok m) (h, e) = (lent_passed h, e)
  lent_comes made (Err r) h = lent_by h

-- what an accepted tree is, by its sort
pub tree_vector : (ρ : Rules) (k : ℕ) (times states tree : List ℕ) → Accepted ρ k the_sort.Vector tree
    → tree_listing ρ k times states tree ≡ pattern_listing ρ k times states (meant ρ (vector_at tree k (length tree)))
unfolding Decodes top_vector listing_of
tree_vector ρ k times states tree a =
    let v = sorted_vector a.expression a.sorted in
    let d : Decodes k tree (vector v.p) = rw v.is_vector_lem at (accepted_decodes a) in
    ap (listing_of ρ k times states) (decoded k tree (vector v.p) d)
    ∙ ap (λ (p : Vector). pattern_listing ρ k times states (meant ρ p)) (sym (ap top_vector d))

pub tree_boolean : (ρ : Rules) (k : ℕ) (times states tree : List ℕ) → Accepted ρ k the_sort.Boolean tree
    → tree_listing ρ k times states tree ≡ value_listing ρ k times states (boolean_at tree k (length tree))
unfolding Decodes top_boolean listing_of
tree_boolean ρ k times states tree a =
    let b = sorted_boolean a.expression a.sorted in
    let d : Decodes k tree (boolean b.c) = rw b.is_boolean_lem at (accepted_decodes a) in
    ap (listing_of ρ k times states) (decoded k tree (boolean b.c) d)
    ∙ ap (value_listing ρ k times states) (sym (ap top_boolean d))

tree_over : {ρ : Rules} (k : ℕ) (tree : List ℕ) → Accepted ρ k the_sort.Boolean tree
    → Over k (boolean_at tree k (length tree))
unfolding Decodes top_boolean ExpressionOver
tree_over k tree a =
    let b = sorted_boolean a.expression a.sorted in
    let d : Decodes k tree (boolean b.c) = rw b.is_boolean_lem at (accepted_decodes a) in
    rw (ap top_boolean d) (decode_over k tree (boolean b.c) d)

pub text_as : {k : ℕ} {times states v w out out' : List ℕ} {r : Outcome} → v ≡ w
    → RowsText k times states v out out' r
    → RowsText k times states w out out' r
text_as e h = rw e at h

pub accepted_as : {ρ : Rules} {s sort : Sort} {k : ℕ} {tree : List ℕ} → sort ≡ s → Accepted ρ k sort tree
    → Accepted ρ k s tree
accepted_as e h = rw e at h

-- a pattern's tree
pub pattern_listed : {ρ : Rules} {k : ℕ} {tree times states out out' : List ℕ} {r : Outcome}
    → Accepted ρ k the_sort.Vector tree
    → ListsTree ρ k (length times) tree times states out out' r
    → RowsText k times states (tree_listing ρ k times states tree) out out' r
pattern_listed {ρ} {k} {tree} {times} {states} {r = r} a h =
    text_as (sym (tree_vector ρ k times states tree a))
    (record {
      outcome = lent_comes (length times ≡ length times) _ _ refl a _ _ r h.comes;
      memory = h.memory;
    })

-- codes of states
codes_good : (states : List ℕ) → ((p : ℕ) → bad_code states p → ⊥) → Codes states
codes_good states s i h = go (below? 7 (get_or states i 0))
  where
    go : (7 < get_or states i 0) ⊎ (get_or states i 0 ≤ 7) → get_or states i 0 < 8
    go (inl b) = absurd (none_first _ s i (h, b))
    go (inr b) = omega arith

recorded : (states : List ℕ) → Codes states → (i : ℕ) → get_or states i 0 < 8
recorded states s i = go (below? i (length states))
  where
    go : (i < length states) ⊎ (length states ≤ i) → get_or states i 0 < 8
    go (inl h) = s i h
    go (inr h) = rw (get_or-eq_default states 0 h) (omega arith)

-- a boolean expression's tree: the listing of values that are codes
module _ (ρ : Rules) (k : ℕ) (tree times states values : List ℕ) (lent : Type 0)
    (e : length values ≡ length times) (good : Codes states → (i : ℕ) → i < length values → get_or values i 0 ≤ 7)
  where
    refused_as : (room : ℕ) → Passed (calls.rows_order ρ k (length times) lent tree the_sort.Boolean states)
        → (i j : ℕ) → RefusedWith (list_order times values room) i j
        → RefusedWith (rows_order k times states (check 9 (no_room (length (values_listing times values)) room) ∷ [])) i j
    unfolding Passed RefusedWith
    refused_as room (n, (m, (s, u))) i j (inl (x, a)) =
        absurd
        (n 0
        (record { given = λ w. a.given (record { rows = w.1.row_count; same = e }); there = refl }))
    refused_as room (n, (m, (s, u))) i j (inr (b, inl (x, a))) =
        let h = good (codes_good states s) j a.given.0 in
        let g = a.given.1 in
        absurd (omega arith)
    refused_as room (n, (m, (s, u))) i j (inr (b, inr (c, inl (x, a)))) =
        inr (lent_18 lent _ n, inr (s, inl (x, a)))
    refused_as room (n, (m, (s, u))) i j (inr (b, inr (c, inr (d, h)))) = absurd h

    listed_as : (room : ℕ) → Passed (calls.rows_order ρ k (length times) lent tree the_sort.Boolean states)
        → (o : Outcome)
        → Comes (list_order times values room) (λ m. m ≡ length (values_listing times values)) o
        → Comes (rows_order k times states (check 9 (no_room (length (values_listing times values)) room) ∷ []))
        (λ m. m ≡ length (values_listing times values)) o
    unfolding Comes Passed
    listed_as room (n, (m, (s, u))) (Ok j) ((a, (b, (c, d))), z) =
        ((lent_18 lent _ n, (s, (c, tt))), z)
    listed_as room q (Err r) h = record { by = refused_as room q _ _ h.by; bare = h.bare }

module _ {ρ : Rules} {k : ℕ} {tree times states codes codes' : List ℕ} {o : Outcome}
    (accepted : Accepted ρ k the_sort.Boolean tree) (size : length codes ≡ length times)
    (h : AllValues ρ k (length times) tree states codes codes' o) where
  pub states_refused : {out : List ℕ} {r : Refusal} → o ≡ Err r
      → RowsText k times states (tree_listing ρ k times states tree) out out (Err r)
  unfolding Comes after
  states_refused {out} {r} e =
      record {
        outcome =
            by_first (rows_order k times states []) _
            (lent_by (length codes ≡ length times) _ _ size accepted _ (rw e at h.comes));
        memory = refl;
      }

  pub states_listed : {m : ℕ} {out out' : List ℕ} {r : Outcome} → o ≡ Ok m
      → ValuesText times codes' out out' r
      → RowsText k times states (tree_listing ρ k times states tree) out out' r
  unfolding Comes after value_listing
  states_listed {out = out} {r = r} e d =
      let b = boolean_at tree k (length tree) in
      let f : ℕ → ℕ = value_at ρ k states (boolean_at tree k (length tree)) in
      let a : codes' ≡ listed 0 (length times) (value_at ρ k states (boolean_at tree k (length tree))) =
      rw e at h.memory in
      let few : Codes states → (i : ℕ) → value_at ρ k states (boolean_at tree k (length tree)) i < 8 =
      λ s i. value_code (row_of k states i) k (λ n. recorded states s (i * k + n)) ρ b (tree_over k tree accepted) in
      let w = rw a at d in
      text_as (sym (tree_boolean ρ k times states tree accepted))
      (record {
        outcome =
            listed_as ρ k tree times states (listed 0 (length times) f) (length codes ≡ length times)
            (listed_length 0 (length times) f)
            (λ s. listed_most 7 (length times) f (λ i. let z = few s i in omega arith))
            (length out) (rw e at h.comes).0 r w.outcome;
        memory = w.memory;
      })

-- more rows than there can be
pub too_many : (lent : List ℕ) {k : ℕ} {times states text out : List ℕ} {r : Outcome} → length lent ≡ 65535
    → length lent < length times
    → r ≡ Err (refusal 18 0) → RowsText k times states text out out r
unfolding Comes RefusedWith after
too_many lent e l h =
    rw h
    (record {
      outcome =
          record {
            by = inl (refl, record { given = λ w. omega (arith, e, l, w.row_count.1); there = refl });
            bare = refl;
          };
      memory = refl;
    })
