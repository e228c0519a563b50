-- Document 02, [2], "brackets around parts of it ignored": a chain of `->` is its operands, as written and filled.
--   chain_of, chain_alternatives  the alternatives of a chain come from its operands alone, whatever its brackets
--   operands_then, operands_other     the operands of `->`, and of any other join
--   filled_then, filled_step, filled_other     filling a join by its kind
--   filled_list, operands_filled  the operands of a filled chain are those of the chain, each filled in its place
--   grouped                      two chains of the same operands, filled, have the same alternatives
use Rattle.std.specs.Prelude.{if◌then◌else◌}
use mathlib.Core.Path.{◌≡◌, refl, ap, sym, ◌∙◌}
use mathlib.Core.Bool.{Bool, true, false}
use mathlib.Core.List.{List, [], ◌∷◌, ◌++◌, map, reverse_aux, append-nil, append_assoc}
use Prim.Native.Nat.{ℕ, zero, suc}
use Rattle.basics.specs.Words.{all}
use Rattle.alf.specs.Expressions.{Boolean, name, Edge, stays, Vector, edge, join, while}
use Rattle.alf.specs.Expressions.{Join, followed_by_join, either_order, with_or_then, any_order, with, or_else}
use Rattle.alf.specs.Alternatives.{Alternative, each, chained, rewritten, alternatives}
use Rattle.alf.specs.Steady.{is_then, is_step_lem, moves, is_steady, kept, steadied, run, operands, filled_in, filled}
use Rattle.basics.proofs.Bools.{never}

-- `->` on alternatives may be regrouped
map_append : {A : Type 0} (f : A → A) (xs ys : List A) → map f (xs ++ ys) ≡ map f xs ++ map f ys
map_append f [] ys = refl
map_append f (x ∷ xs) ys = ap (◌∷◌ (f x)) (map_append f xs ys)

after_map : (x y : Alternative) (zs : List Alternative) → map (◌++◌ (x ++ y)) zs ≡ map (◌++◌ x) (map (◌++◌ y) zs)
after_map x y [] = refl
after_map x y (z ∷ zs) = let e = append_assoc x y z in let d = after_map x y zs in λ i. e i ∷ d i

chained_left : (xs ys zs : List Alternative) → chained (xs ++ ys) zs ≡ chained xs zs ++ chained ys zs
unfolding each
chained_left [] ys zs = refl
chained_left (x ∷ xs) ys zs =
    ap (◌++◌ (map (◌++◌ x) zs)) (chained_left xs ys zs) ∙ sym (append_assoc (map (◌++◌ x) zs) (chained xs zs) _)

chained_one : (x : Alternative) (ys zs : List Alternative)
    → chained (map (◌++◌ x) ys) zs ≡ map (◌++◌ x) (chained ys zs)
unfolding each
chained_one x [] zs = refl
chained_one x (y ∷ ys) zs =
    let e = after_map x y zs in
    let d = chained_one x ys zs in
    (λ i. e i ++ d i) ∙ sym (map_append (◌++◌ x) (map (◌++◌ y) zs) (chained ys zs))

pub chained_assoc : (xs ys zs : List Alternative) → chained (chained xs ys) zs ≡ chained xs (chained ys zs)
unfolding each
chained_assoc [] ys zs = refl
chained_assoc (x ∷ xs) ys zs =
    let e = chained_one x ys zs in
    let d = chained_assoc xs ys zs in
    chained_left (map (◌++◌ x) ys) (chained xs ys) zs ∙ λ i. e i ++ d i

-- one alternative of no step is the chain of nothing
map_nil : (xs : List Alternative) → map (◌++◌ []) xs ≡ xs
map_nil [] = refl
map_nil (x ∷ xs) = ap (◌∷◌ x) (map_nil xs)

nothing_left : (xs : List Alternative) → chained ([] ∷ []) xs ≡ xs
unfolding each
nothing_left xs = append-nil (map (◌++◌ []) xs) ∙ map_nil xs

nothing_right : (xs : List Alternative) → chained xs ([] ∷ []) ≡ xs
unfolding each
nothing_right [] = refl
nothing_right (x ∷ xs) = let e = append-nil x in let d = nothing_right xs in λ i. e i ∷ d i

-- the alternatives of a chain, from its operands
unfoldable pub chain_of : List Vector → List Alternative
chain_of [] = [] ∷ []
chain_of (o ∷ os) = chained (alternatives o) (chain_of os)

chain_append : (os ps : List Vector) → chained (chain_of os) (chain_of ps) ≡ chain_of (os ++ ps)
unfolding chain_of
chain_append [] ps = nothing_left (chain_of ps)
chain_append (o ∷ os) ps =
    chained_assoc (alternatives o) (chain_of os) (chain_of ps) ∙ ap (chained (alternatives o)) (chain_append os ps)

chain_single : (o : Vector) → alternatives o ≡ chain_of (o ∷ [])
unfolding chain_of
chain_single o = sym (nothing_right (alternatives o))

pub is_then_inv : (j : Join) → is_then j ≡ true → j ≡ followed_by_join
unfolding is_then
is_then_inv followed_by_join h = refl
is_then_inv either_order h = never h
is_then_inv with_or_then h = never h
is_then_inv any_order h = never h
is_then_inv with h = never h
is_then_inv or_else h = never h

-- the operands of `->`, and of anything else
pub operands_then : (j : Join) (p q : Vector) → is_then j ≡ true → operands (join j p q) ≡ operands p ++ operands q
unfolding operands
operands_then j p q e = rw e refl

pub operands_other : (j : Join) (p q : Vector) → is_then j ≡ false → operands (join j p q) ≡ join j p q ∷ []
unfolding operands
operands_other j p q e = rw e refl

join_then : (j : Join) (p q : Vector) → is_then j ≡ true
    → alternatives (join j p q) ≡ chained (alternatives p) (alternatives q)
unfolding alternatives rewritten
join_then j p q e = rw (is_then_inv j e) refl

pub chain_alternatives : (p : Vector) → alternatives p ≡ chain_of (operands p)
chain_alternatives (edge e c) = chain_single (edge e c) ∙ ap chain_of (unfold operands in refl)
chain_alternatives (join j p q) = go (is_then j) refl (chain_alternatives p) (chain_alternatives q)
  where
    go : (u : Bool) → is_then j ≡ u → alternatives p ≡ chain_of (operands p) → alternatives q ≡ chain_of (operands q)
        → alternatives (join j p q) ≡ chain_of (operands (join j p q))
    go true e s t =
        join_then j p q e
        ∙ (λ i. chained (s i) (t i))
        ∙ chain_append (operands p) (operands q)
        ∙ ap chain_of (sym (operands_then j p q e))
    go false e s t = chain_single (join j p q) ∙ ap chain_of (sym (operands_other j p q e))
chain_alternatives (while s p c) = chain_single (while s p c) ∙ ap chain_of (unfold operands in refl)

pub reverse_append : {A : Type 0} (l m r : List A) → reverse_aux (l ++ m) r ≡ reverse_aux m (reverse_aux l r)
reverse_append [] m r = refl
reverse_append (x ∷ l) m r = reverse_append l m (x ∷ r)

-- the operands of a chain, each filled in its place: with those before it, nearest first, and those after it
unfoldable pub filled_list : List Vector → List Vector → List Vector
filled_list before [] = []
filled_list before (o ∷ os) = filled_in before os o ∷ filled_list (o ∷ before) os

-- what filling makes of an operand is one operand
kept_alone : (n : ℕ) (f : ℕ → Bool) (p : Vector) → operands p ≡ p ∷ [] → operands (kept n f p) ≡ kept n f p ∷ []
unfolding kept
kept_alone zero f p h = h
kept_alone (suc n) f p h = go (f n) (kept_alone n f p h)
  where
    go : (q : Bool) → operands (kept n f p) ≡ kept n f p ∷ []
        → operands (if q then join with (kept n f p) (edge stays (name n)) else kept n f p)
        ≡ (if q then join with (kept n f p) (edge stays (name n)) else kept n f p) ∷ []
    go true d = operands_other with _ _ (unfold is_then in refl)
    go false d = d

pub steadied_alone : (steps : List Vector) (p : Vector) → operands p ≡ p ∷ []
    → operands (steadied steps p) ≡ steadied steps p ∷ []
unfolding steadied
steadied_alone steps p h = go (all moves steps)
  where
    go : (q : Bool) → operands (if q then kept 32 (is_steady steps p) p else p)
        ≡ (if q then kept 32 (is_steady steps p) p else p) ∷ []
    go true = kept_alone 32 (is_steady steps p) p h
    go false = h

-- filled_in by cases
pub filled_then : (before after : List Vector) (j : Join) (p q : Vector) → is_then j ≡ true
    → filled_in before after (join j p q)
    ≡ join j (filled_in before (operands q ++ after) p) (filled_in (reverse_aux (operands p) before) after q)
unfolding filled_in
filled_then before after j p q e = rw e refl

pub filled_step : (before after : List Vector) (j : Join) (p q : Vector) → is_then j ≡ false
    → is_step_lem (join j p q) ≡ true
    → filled_in before after (join j p q) ≡ steadied (run before (join j p q) after) (join j p q)
unfolding filled_in
filled_step before after j p q e h = rw (e, h) refl

pub filled_other : (before after : List Vector) (j : Join) (p q : Vector) → is_then j ≡ false
    → is_step_lem (join j p q) ≡ false
    → filled_in before after (join j p q) ≡ join j (filled_in [] [] p) (filled_in [] [] q)
unfolding filled_in
filled_other before after j p q e h = rw (e, h) refl

pub filled_alone : (before after : List Vector) (j : Join) (p q : Vector) → is_then j ≡ false
    → operands (filled_in before after (join j p q)) ≡ filled_in before after (join j p q) ∷ []
filled_alone before after j p q e = go (is_step_lem (join j p q)) refl
  where
    go : (v : Bool) → is_step_lem (join j p q) ≡ v
        → operands (filled_in before after (join j p q)) ≡ filled_in before after (join j p q) ∷ []
    go true h = rw (filled_step before after j p q e h) (steadied_alone _ _ (operands_other j p q e))
    go false h = rw (filled_other before after j p q e h) (operands_other j _ _ e)

pub edge_alone : (before after : List Vector) (e : Edge) (c : Boolean)
    → operands (filled_in before after (edge e c)) ≡ filled_in before after (edge e c) ∷ []
unfolding filled_in
edge_alone before after e c = steadied_alone _ (edge e c) (unfold operands in refl)

-- The operands of a filled part of a chain, and behind them those after it, filled
pub operands_filled : (before after : List Vector) (p : Vector)
    → operands (filled_in before after p) ++ filled_list (reverse_aux (operands p) before) after
    ≡ filled_list before (operands p ++ after)
unfolding filled_list
operands_filled b a (edge e c) =
    rw (edge_alone b a e c) (unfold operands in refl)
operands_filled b a (join j p q) =
    go (is_then j) refl (operands_filled b (operands q ++ a) p) (operands_filled (reverse_aux (operands p) b) a q)
  where
    go : (u : Bool) → is_then j ≡ u
        → operands (filled_in b (operands q ++ a) p) ++ filled_list (reverse_aux (operands p) b) (operands q ++ a)
        ≡ filled_list b (operands p ++ (operands q ++ a))
        → operands (filled_in (reverse_aux (operands p) b) a q)
        ++ filled_list (reverse_aux (operands q) (reverse_aux (operands p) b)) a
        ≡ filled_list (reverse_aux (operands p) b) (operands q ++ a)
        → operands (filled_in b a (join j p q)) ++ filled_list (reverse_aux (operands (join j p q)) b) a
        ≡ filled_list b (operands (join j p q) ++ a)
    go true e s t =
        rw (
          filled_then b a j p q e,
          operands_then j p q e,
          operands_then j _ _ e,
          reverse_append (operands p) (operands q) b,
          append_assoc (operands p) (operands q) a,
          ← s,
          ← t,
        )
        (append_assoc (operands (filled_in b (operands q ++ a) p)) _ _)
    go false e s t = rw (filled_alone b a j p q e, operands_other j p q e) refl
operands_filled b a (while s p c) = unfold operands filled_in in refl

-- "brackets around parts of it ignored"
filled_operands : (p : Vector) → operands (filled p) ≡ filled_list [] (operands p)
unfolding filled_list
filled_operands p =
    sym (append-nil (operands (filled p)))
    ∙ operands_filled [] [] p
    ∙ ap (filled_list []) (append-nil (operands p))

pub filled_chain : (p : Vector) → alternatives (filled p) ≡ chain_of (filled_list [] (operands p))
filled_chain p = chain_alternatives (filled p) ∙ ap chain_of (filled_operands p)

pub grouped : (p q : Vector) → operands p ≡ operands q → alternatives (filled p) ≡ alternatives (filled q)
grouped p q e = filled_chain p ∙ ap (λ (os : List Vector). chain_of (filled_list [] os)) e ∙ sym (filled_chain q)
