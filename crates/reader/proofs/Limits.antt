-- Limit 8 of what is read: the expression is over the names of the list, so its bytes decode, and a vector is measured.
--   call_over               an expression that a tree is sorted as is over the names that its tokens have
--   vector_ends, vector_is  the bytes of a vector that is read end with it
use Rattle.std.specs.Prelude.{if◌then◌else◌}
use mathlib.Core.Path.{◌≡◌, refl, sym, ap, ◌∙◌}
use mathlib.Core.Bool.{Bool, true, false}
use mathlib.Core.List.{List, [], ◌∷◌, ◌++◌}
use Prim.Native.Nat.{ℕ, ◌-◌, ◌≤◌, ◌<◌}
use native.Mathlib.Omega.{arith}
use lib.Dec.{eqb, ltb}
use lib.ListN.{length, replicate}
use lib.Seq.{take-length}
use borrow.Author.Tests.{eqb-true, eqb-false}
use Rattle.alf.specs.declared.Sort.{Sort}
use Rattle.alf.specs.declared.Sort.TheVariants as the_sort
use Rattle.alf.specs.Expressions.{name, literal, negated, Vector, edge, join, while}
use Rattle.alf.specs.Expressions.{with, or_else, on_right, on_left, Expression, boolean, vector}
use Rattle.alf.specs.Expressions.{Over, VectorOver, ExpressionOver}
use Rattle.alf.specs.Decoder as decoder
use Rattle.alf.specs.Bytes.{bytes_of}
use Rattle.alf.specs.Decoder.{empty, push, stack_at, top_vector, Decodes, edge_at, join_at}
use Rattle.alf.proofs.OperatorBytes.{edge_known}
use Rattle.alf.proofs.Encoding.{runs, runs_stack, decode_bytes}
use Rattle.basics.proofs.AllEntries.{All, none, more}
use Rattle.basics.proofs.Stores.{front_take, front_holds}
use Rattle.grammar.specs.declared.Token.{Token}
use Rattle.grammar.specs.Grammar.{Tree, nodes}
use Rattle.grammar.specs.Answers.{padded}
use Rattle.grammar.specs.Written.{Formed, leaf_is, one_is, two_is, three_is}
use Rattle.trees.specs.Parts.{EndsVector, vector_at}
use Rattle.sorting.specs.Sorts.{Sorted, is, faulty, atom, of_one, of_two, of_three, given, asked, sorted, sorted_for}
use Rattle.sorting.proofs.NodeCodes.{operand_code, prefix_code, node_one}

-- what is made is over n names
unfoldable SortedOver : ℕ → Sorted → Type 0
SortedOver n (is x) = ExpressionOver n x
SortedOver n (faulty p) = Unit {0}

over_given :
    (n : ℕ) (q : Sorted) (f : Expression → Sorted) →
    SortedOver n q →
    ((x : Expression) → ExpressionOver n x → SortedOver n (f x)) →
    SortedOver n (given q f)
unfolding SortedOver given
over_given n (is x) f h k = k x h
over_given n (faulty p) f h k = tt

if_over : (n : ℕ) (b : Bool) (q r : Sorted) → SortedOver n q → SortedOver n r
    → SortedOver n (if b then q else r)
if_over n true q r h k = h
if_over n false q r h k = k

over_one : (n : ℕ) (t : Token) → 64 ≤ t.code → t.code < 148 → (x : Expression) → ExpressionOver n x
    → SortedOver n (of_one t x)
unfolding SortedOver of_one ExpressionOver Over VectorOver
over_one n t l h (boolean c) o = go (eqb t.code 147) refl
  where
    go : (b : Bool) → eqb t.code 147 ≡ b
        → SortedOver n (if b then is (boolean (negated c)) else is (vector (edge (edge_at (t.code - 64)) c)))
    go true e = o
    go false e = (edge_known (t.code - 64) (omega (arith, eqb-false t.code 147 e)), o)
over_one n t l h (vector p) o = tt

over_two : (n : ℕ) (t : Token) (x y : Expression) → ExpressionOver n x → ExpressionOver n y
    → SortedOver n (of_two t x y)
unfolding SortedOver of_two ExpressionOver Over VectorOver
over_two n t (boolean a) (boolean b) o u = if_over n (ltb t.code 50) _ (faulty t.place) (o, u) tt
over_two n t (boolean a) (vector q) o u = if_over n (eqb t.code 40) (is (vector (while on_left q a)))
    (faulty t.place) (u, o) tt
over_two n t (vector p) (boolean b) o u = if_over n (eqb t.code 40) (is (vector (while on_right p b)))
    (faulty t.place) (o, u) tt
over_two n t (vector p) (vector q) o u =
    if_over n (eqb t.code 40) (is (vector (join with p q))) _ (o, u)
    (if_over n (eqb t.code 41) (is (vector (join or_else p q))) _ (o, u)
    (if_over n (ltb t.code 50) (faulty t.place) (is (vector (join (join_at (t.code - 50)) p q))) tt (o, u)))

over_three : (n : ℕ) (t : Token) (z x y : Expression) → ExpressionOver n z → ExpressionOver n x
    → ExpressionOver n y
    → SortedOver n (of_three t z x y)
unfolding SortedOver of_three ExpressionOver Over
over_three n t (boolean c) (boolean a) (boolean b) o u w = (o, u, w)
over_three n t (boolean c) (boolean a) (vector q) o u w = tt
over_three n t (boolean c) (vector p) y o u w = tt
over_three n t (vector r) x y o u w = tt

-- each name is one of them
abbrev pub Numbered : ℕ → (ℕ → ℕ) → Token → Type 0
Numbered n number t = t.code ≡ 0 → number t.place < n

over_leaf : (n : ℕ) (number : ℕ → ℕ) (t : Token) → t.code < 40 → Numbered n number t
    → SortedOver n (is (boolean (atom number t)))
unfolding SortedOver ExpressionOver Over atom
over_leaf n number t l k = go (eqb t.code 0) refl
  where
    go : (b : Bool) → eqb t.code 0 ≡ b
        → Over n (if b then name (number t.place) else literal (t.code - 32))
    go true e = k (eqb-true _ _ e)
    go false e = omega arith

all_left : {P : Token → Type 0} (ts us : List Token) → All P (ts ++ us) → All P ts
all_left [] us a = none
all_left (t ∷ ts) us (more h a) = more h (all_left ts us a)

all_right : {P : Token → Type 0} (ts us : List Token) → All P (ts ++ us) → All P us
all_right [] us a = a
all_right (t ∷ ts) us (more h a) = all_right ts us a

all_one : {P : Token → Type 0} {t : Token} → All P (t ∷ []) → P t
all_one (more h a) = h

module _ (n : ℕ) (number : ℕ → ℕ) where
  sorted_over : {e : Tree} → Formed e → All (Numbered n number) (nodes e) → SortedOver n (sorted number e)
  unfolding sorted nodes
  sorted_over (leaf_is {t = t} k) a = over_leaf n number t (operand_code _ k).high (all_one a)
  sorted_over (one_is {t = t} {a = x} k p) a =
      let c = prefix_code _ k in
      over_given n (sorted number x) (of_one t) (sorted_over p (all_left (nodes x) (t ∷ []) a))
      (over_one n t c.1 (node_one _ c.0))
  sorted_over (two_is {t = t} {a = x} {b = y} k p q) a =
      let b = all_left (nodes x ++ nodes y) (t ∷ []) a in
      over_given n (sorted number x) _ (sorted_over p (all_left (nodes x) (nodes y) b))
      (λ u o. over_given n (sorted number y) (of_two t u) (sorted_over q (all_right (nodes x) (nodes y) b))
      (λ v w. over_two n t u v o w))
  sorted_over (three_is {t = t} {c = z} {a = x} {b = y} k o p q) a =
      let b = all_left ((nodes z ++ nodes x) ++ nodes y) (t ∷ []) a in
      let c = all_left (nodes z ++ nodes x) (nodes y) b in
      over_given n (sorted number z) _ (sorted_over o (all_left (nodes z) (nodes x) c))
      (λ r f. over_given n (sorted number x) _ (sorted_over p (all_right (nodes z) (nodes x) c))
      (λ u g. over_given n (sorted number y) (of_three t r u)
      (sorted_over q (all_right (nodes z ++ nodes x) (nodes y) b))
      (λ v h. over_three n t r u v f g h)))

  over_asked : (sort : Sort) (length : ℕ) (x : Expression) → ExpressionOver n x
      → SortedOver n (asked sort length x)
  unfolding SortedOver asked
  over_asked the_sort.Boolean l (boolean c) o = o
  over_asked the_sort.Boolean l (vector p) o = tt
  over_asked the_sort.Vector l (boolean c) o = tt
  over_asked the_sort.Vector l (vector p) o = o

  pub call_over :
      (sort : Sort) (length : ℕ) {e : Tree} {x : Expression} →
      Formed e →
      All (Numbered n number) (nodes e) →
      sorted_for sort length number e ≡ is x →
      ExpressionOver n x
  unfolding sorted_for SortedOver
  call_over sort l {e} f a s =
      rw s at (over_given n (sorted number e) (asked sort l) (sorted_over f a) (over_asked sort l))

-- the bytes of a vector, with zeros behind them, end with it
padded_stack : (n : ℕ) (e : Expression) → n ≤ 32 → ExpressionOver n e
    → stack_at (padded (bytes_of e)) n (length (bytes_of e)) ≡ push e empty
unfolding Decodes
padded_stack n e few o =
    runs_stack (padded (bytes_of e)) n (length (bytes_of e)) (front_holds (replicate 256 0) (bytes_of e))
    ∙ ap (λ (t : List ℕ). runs n t empty)
    (front_take (replicate 256 0) (bytes_of e) (length (bytes_of e)) refl
    ∙ sym (take-length (bytes_of e)))
    ∙ sym (runs_stack (bytes_of e) n (length (bytes_of e)) (omega arith))
    ∙ decode_bytes n few e o

pub vector_ends : (n : ℕ) (v : Vector) → n ≤ 32 → ExpressionOver n (vector v)
    → EndsVector (padded (bytes_of (vector v))) n (length (bytes_of (vector v)))
unfolding decoder.is_vector
vector_ends n v few o =
    record {
      within = front_holds (replicate 256 0) (bytes_of (vector v));
      whole = ap decoder.is_vector (padded_stack n (vector v) few o);
    }

pub vector_is : (n : ℕ) (v : Vector) → n ≤ 32 → ExpressionOver n (vector v)
    → vector_at (padded (bytes_of (vector v))) n (length (bytes_of (vector v))) ≡ v
unfolding top_vector
vector_is n v few o = ap top_vector (padded_stack n (vector v) few o)
