-- The kind of what a byte makes, from its operands' kinds, and where it starts.
-- Main names: none, leaf_found, one_found, pair_found, three_found; one_made, pair_made, three_made; no_right, no_left, no_first, where an operand is
-- missing; ending_is, ending_from, ending_none; ending_unique.
use Rattle.std.specs.Prelude.{Option, Some, None, if◌then◌else◌}
use Prim.Native.Nat.{ℕ, ◌-◌, ◌<◌, ◌≤◌}
use native.Mathlib.Omega.{arith}
use mathlib.Core.Path.{◌≡◌, refl, ap, sym, ◌∙◌}
use mathlib.Core.Bool.{Bool, true, false}
use mathlib.Core.List.{List}
use lib.ListN.{get_or, length}
use native.Mathlib.Nat.{zero-add}
use Rattle.alf.specs.Expressions.{Boolean, boolean, Vector, vector}
use Rattle.alf.specs.Decoder.{Stack, empty, broken, push, Operation, leaf_at, pair_at, three_at, one_at}
use Rattle.alf.specs.Decoder.{is_boolean, is_vector, under, if_so, run, arity_at, stack_at}
use Rattle.basics.proofs.Bools.{never}
use Rattle.alf.proofs.OperatorBytes.{leaf_class, pair_class, three_class, one_class}
use Rattle.alf.proofs.Parts.{last, arity_zero, arity_one, arity_two, arity_three, deep, unders}
use Rattle.trees.specs.Parts.{is_whole, Ends, Start}
use Rattle.alf.specs.declared.Sort.{Sort}
use Rattle.alf.specs.declared.Sort.TheVariants as sort
use Rattle.trees.specs.declared.sorts.Part.{Part}
use Rattle.trees.specs.Sorts.{kind_of, boolean_sort, vector_sort, given, leaf_kind, one_kind, pair_kind}
use Rattle.trees.specs.Sorts.{three_kind, made, Ending, nothing, part}
use Rattle.trees.proofs.MadeSorts.{one_sort, pair_sort, three_sort}
use Rattle.trees.proofs.Operands.{arity_some, arity_more}
use Rattle.trees.proofs.Starts.{Going, going_first, going_on, going_part, going_done, whole_at, start_unique}

-- the sort of what is on top, as the decoder's tests have it
boolean_top : (s : Stack) (k : Sort) → Some k ≡ kind_of s → is_boolean s ≡ boolean_sort k
unfolding is_boolean kind_of boolean_sort
boolean_top empty k h = cc
boolean_top broken k h = cc
boolean_top (push (boolean c) s) sort.Boolean h = refl
boolean_top (push (boolean c) s) sort.Vector h = cc
boolean_top (push (vector p) s) sort.Boolean h = cc
boolean_top (push (vector p) s) sort.Vector h = refl

vector_top : (s : Stack) (k : Sort) → Some k ≡ kind_of s → is_vector s ≡ vector_sort k
unfolding is_vector kind_of vector_sort
vector_top empty k h = cc
vector_top broken k h = cc
vector_top (push (boolean c) s) sort.Boolean h = refl
vector_top (push (boolean c) s) sort.Vector h = cc
vector_top (push (vector p) s) sort.Boolean h = cc
vector_top (push (vector p) s) sort.Vector h = refl

kind_whole : (s : Stack) (k : Sort) → kind_of s ≡ Some k → is_whole s ≡ true
unfolding kind_of is_whole
kind_whole empty k h = cc
kind_whole broken k h = cc
kind_whole (push e s) k h = refl

pub whole_kind_lem : (s : Stack) → is_whole s ≡ true → kind_of s ≡ None → ⊥
unfolding kind_of is_whole
whole_kind_lem empty h k = never h
whole_kind_lem broken h k = never h
whole_kind_lem (push (boolean c) s) h k = cc
whole_kind_lem (push (vector p) s) h k = cc

-- the kind of what a choice of operations, or a stack under a condition, gives
kind_choice : (q : Bool) (x y : Operation) (s : Stack)
    → kind_of (run (if q then x else y) s) ≡ (if q then kind_of (run x s) else kind_of (run y s))
kind_choice true x y s = refl
kind_choice false x y s = refl

so_boolean : (q : Bool) (c : Boolean) (s : Stack) → kind_of (if_so q (push (boolean c) s)) ≡ given q sort.Boolean
unfolding kind_of if_so given
so_boolean true c s = refl
so_boolean false c s = refl

so_vector : (q : Bool) (p : Vector) (s : Stack) → kind_of (if_so q (push (vector p) s)) ≡ given q sort.Vector
unfolding kind_of if_so given
so_vector true p s = refl
so_vector false p s = refl

kind_broken : kind_of broken ≡ None
unfolding kind_of
kind_broken = refl

kind_leaf : (c : Boolean) (s : Stack) → kind_of (push (boolean c) s) ≡ Some sort.Boolean
unfolding kind_of
kind_leaf c s = refl

leaf_kind_lem : (names b : ℕ) (s : Stack) → kind_of (run (leaf_at names b) s) ≡ leaf_kind names b
unfolding leaf_at leaf_kind run
leaf_kind_lem names b s = simp (kind_choice, kind_leaf, kind_broken)

one_kind_lem : (b : ℕ) (s : Stack) (r : Sort) → Some r ≡ kind_of s → kind_of (run (one_at b) s) ≡ one_kind b r
unfolding one_at one_kind run
one_kind_lem b s r h = simp (kind_choice, so_boolean, so_vector, boolean_top s r h, kind_broken)

pair_kind_lem : (b : ℕ) (s : Stack) (l r : Sort) → Some l ≡ kind_of (under s) → Some r ≡ kind_of s
    → kind_of (run (pair_at b) s) ≡ pair_kind b l r
unfolding pair_at pair_kind run
pair_kind_lem b s l r h k =
    simp (
      kind_choice,
      so_boolean,
      so_vector,
      boolean_top s r k,
      vector_top s r k,
      boolean_top (under s) l h,
      vector_top (under s) l h,
      kind_broken,
    )

three_kind_lem : (b : ℕ) (s : Stack) (f l r : Sort) → Some f ≡ kind_of (under (under s))
    → Some l ≡ kind_of (under s) → Some r ≡ kind_of s → kind_of (run (three_at b) s) ≡ three_kind b f l r
unfolding three_at three_kind run
three_kind_lem b s f l r g h k =
    simp (
      kind_choice,
      so_boolean,
      boolean_top s r k,
      boolean_top (under s) l h,
      boolean_top (under (under s)) f g,
      kind_broken,
    )

-- a kind and a place, as what the bytes end with
abbrev pub placed : Option Sort → ℕ → Option Part
placed None m = None
placed (Some k) m = Some (record { sort = k; start = m })

pub none : (t : List ℕ) (names : ℕ) → Ending t names 0 None
unfolding stack_at kind_of
none t names = nothing refl

-- what is known of what the bytes end with
pub ending_is : {t : List ℕ} {names end : ℕ} {p : Part} → Ending t names end (Some p)
    → Some p.sort ≡ kind_of (stack_at t names end)
ending_is (part k s) = k

pub ending_from : {t : List ℕ} {names end : ℕ} {p : Part} → Ending t names end (Some p) → Start t names end p.start
ending_from (part k s) = s

pub ending_none : {t : List ℕ} {names end : ℕ} → Ending t names end None → kind_of (stack_at t names end) ≡ None
ending_none (nothing k) = k

never_some : {k : Sort} → Some k ≡ None → ⊥
never_some e = cc

same_part : {k k' : Sort} {m m' : ℕ} → Some k ≡ Some k' → m ≡ m'
    → ◌≡◌ {A = Option Part} (Some (record { sort = k; start = m })) (Some (record { sort = k'; start = m' }))
same_part e d = cc

-- what the bytes before a place end with is one part, or none
pub ending_unique : {t : List ℕ} {names end : ℕ} {p q : Option Part} → Ending t names end p → Ending t names end q
    → p ≡ q
ending_unique (nothing e) (nothing d) = refl
ending_unique (nothing e) (part d s) = absurd (never_some (d ∙ e))
ending_unique (part e s) (nothing d) = absurd (never_some (e ∙ d))
ending_unique (part e s) (part d u) = same_part (e ∙ sym d) (start_unique s u)

-- an expression that a byte takes has a kind
deep_at : (k n : ℕ) (s : Stack) → k < n → deep n s → kind_of (unders k s) ≡ None → ⊥
deep_at k n s l d = whole_kind_lem (unders k s) (whole_at k n s l d)

-- the last byte of the bytes before `end`, and what it makes
module _ (t : List ℕ) (names end : ℕ) (p : 0 < end) (u : end ≤ length t) where
  gone : {k : Sort} → kind_of (stack_at t names end) ≡ Some k
      → Going t names end (end - 1) (arity_at (get_or t (end - 1) 0))
  gone {k} q =
      let w : Ends t names end = record { within = u; whole = kind_whole _ k q } in
      rw zero-add at (going_on t names end end 1 (going_first w) (omega arith))

  ended : (v : Option Sort) (m : ℕ) → v ≡ kind_of (stack_at t names end)
      → (Going t names end (end - 1) (arity_at (get_or t (end - 1) 0)) → Start t names end m)
      → Ending t names end (placed v m)
  ended None m e f = nothing (sym e)
  ended (Some k) m e f = part e (f (gone (sym e)))

  absent : (Going t names end (end - 1) (arity_at (get_or t (end - 1) 0)) → ⊥) → Ending t names end None
  absent f = nothing (go (kind_of (stack_at t names end)) refl)
    where
      go : (k : Option Sort) → kind_of (stack_at t names end) ≡ k → kind_of (stack_at t names end) ≡ None
      go None e = e
      go (Some k) e = absurd (f (gone e))

  pub leaf_found : {v : Option Sort} → get_or t (end - 1) 0 < 40 → v ≡ leaf_kind names (get_or t (end - 1) 0)
      → Ending t names end (placed v (end - 1))
  leaf_found {v} k e =
      ended v (end - 1) (rw (last t names end p, leaf_class names _ k, leaf_kind_lem) e)
      (λ g. going_done (rw (arity_zero _ k) at g) (omega arith))

  pub no_right : Ending t names (end - 1) None → 40 ≤ get_or t (end - 1) 0 → Ending t names end None
  unfolding unders
  no_right a k = absent (λ g. deep_at 0 _ _ (arity_some _ k) g.has (ending_none a))

  module _ {r : Part} (a : Ending t names (end - 1) (Some r)) where
    pub one_found : {v : Option Sort} → 64 ≤ get_or t (end - 1) 0 → v ≡ one_kind (get_or t (end - 1) 0) r.sort
        → Ending t names end (placed v r.start)
    one_found {v} k e =
        ended v r.start (rw (last t names end p, one_class names _ k, one_kind_lem _ _ r.sort (ending_is a)) e)
        (λ g. going_done (going_part t names end _ 0 r.start (rw (arity_one _ k) at g) (ending_from a)) (omega arith))

    pub one_made : {k : Sort} → 64 ≤ get_or t (end - 1) 0 → Some k ≡ one_kind (get_or t (end - 1) 0) r.sort
        → Ending t names end (made (get_or t (end - 1) 0) (Some r.start))
    one_made {k} h e = rw (one_sort _ r.sort h e) at (one_found h e)

    pub no_left : Ending t names r.start None → 40 ≤ get_or t (end - 1) 0 → get_or t (end - 1) 0 < 64
        → Ending t names end None
    unfolding unders
    no_left c k j =
        absent (λ g. deep_at 1 _ _ (arity_more _ k j) g.has (ap kind_of (sym (ending_from a).left) ∙ ending_none c))

    module _ {l : Part} (c : Ending t names r.start (Some l)) where
      left_is : Some l.sort ≡ kind_of (under (stack_at t names (end - 1)))
      left_is = ending_is c ∙ ap kind_of (ending_from a).left

      pub pair_found : {v : Option Sort} → 40 ≤ get_or t (end - 1) 0 → get_or t (end - 1) 0 < 60
          → v ≡ pair_kind (get_or t (end - 1) 0) l.sort r.sort → Ending t names end (placed v l.start)
      pair_found {v} k j e =
          ended v l.start
          (rw (last t names end p, pair_class names _ k j, pair_kind_lem _ _ l.sort r.sort left_is (ending_is a)) e)
          (λ g.
          let h = going_part t names end _ 1 r.start (rw (arity_two _ k j) at g) (ending_from a) in
          going_done (going_part t names end r.start 0 l.start h (ending_from c)) (omega arith))

      pub pair_made : {k : Sort} → 40 ≤ get_or t (end - 1) 0 → get_or t (end - 1) 0 < 60
          → Some k ≡ pair_kind (get_or t (end - 1) 0) l.sort r.sort
          → Ending t names end (made (get_or t (end - 1) 0) (Some l.start))
      pair_made {k} h j e = rw (pair_sort _ l.sort r.sort e) at (pair_found h j e)

      second_is : kind_of (under (under (stack_at t names (end - 1)))) ≡ kind_of (stack_at t names l.start)
      second_is = ap kind_of (sym ((ending_from c).left ∙ ap under (ending_from a).left))

      pub no_first : Ending t names l.start None → 60 ≤ get_or t (end - 1) 0 → get_or t (end - 1) 0 < 64
          → Ending t names end None
      unfolding unders
      no_first y k j =
          absent (λ g.
          let h = rw (arity_three _ k j) at g.has in
          deep_at 2 3 _ (omega arith) h (second_is ∙ ending_none y))

      pub three_found : {f : Part} {v : Option Sort} → Ending t names l.start (Some f)
          → 60 ≤ get_or t (end - 1) 0 → get_or t (end - 1) 0 < 64
          → v ≡ three_kind (get_or t (end - 1) 0) f.sort l.sort r.sort → Ending t names end (placed v f.start)
      three_found {f} {v} y k j e =
          ended v f.start
          (rw (
            last t names end p,
            three_class names _ k j,
            three_kind_lem _ _ f.sort l.sort r.sort (ending_is y ∙ sym second_is) left_is (ending_is a),
          ) e)
          (λ g.
          let h = going_part t names end _ 2 r.start (rw (arity_three _ k j) at g) (ending_from a) in
          let i = going_part t names end r.start 1 l.start h (ending_from c) in
          going_done (going_part t names end l.start 0 f.start i (ending_from y)) (omega arith))

      pub three_made : {f : Part} {k : Sort} → Ending t names l.start (Some f)
          → 60 ≤ get_or t (end - 1) 0 → get_or t (end - 1) 0 < 64
          → Some k ≡ three_kind (get_or t (end - 1) 0) f.sort l.sort r.sort
          → Ending t names end (made (get_or t (end - 1) 0) (Some f.start))
      three_made {f} {k} y h j e = rw (three_sort _ f.sort l.sort r.sort e) at (three_found y h j e)
