-- Laws of one operator: what it makes of its operands, as an expression and as a byte behind theirs.
--   MadeBy, made_shows                          what is made, its sort and its bytes, and how the pass shows it
--   made_leaf, made_one, made_two, made_three   by a name or literal, and by an operator of one, two, three
--   fault_two                                   operands that are not taken
use Rattle.std.specs.Prelude.{if◌then◌else◌}
use mathlib.Core.Path.{◌≡◌, refl, sym, ap, ◌∙◌}
use mathlib.Core.Bool.{Bool, true, false, not, ◌||◌}
use mathlib.Core.List.{List, [], ◌∷◌, ◌++◌, append_assoc}
use Prim.Native.Nat.{ℕ, ◌+◌, ◌-◌, ◌≤◌, ◌<◌}
use native.Mathlib.Omega.{arith}
use lib.Dec.{eqb, ltb, leb}
use lib.ListN.{length}
use borrow.Author.Tests.{eqb-true, eqb-false, ltb-true, ltb-false, leb-true, ne_eqb}
use Rattle.alf.specs.Expressions.{Boolean, name, literal, negated, binary, choice, Vector, edge, join, while}
use Rattle.alf.specs.Expressions.{with, or_else, on_right, on_left, Expression, boolean, vector}
use Rattle.alf.specs.Bytes.{bytes_of, boolean_bytes, vector_bytes, join_byte}
use Rattle.alf.specs.Decoder.{binary_at, join_at, edge_at}
use Rattle.alf.proofs.OperatorBytes.{binary_byte_lem, join_byte_lem, edge_byte}
use Rattle.grammar.specs.declared.Token.{Token}
use Rattle.sorting.specs.declared.sorts.Sorting.{Sorting}
use Rattle.sorting.specs.Sorts.{Sorted, is, faulty, atom, of_one, of_two, of_three}
use Rattle.sorting.specs.Passes.{going, settled, is_node, is_vector, stack_bytes, pair_byte, leaf_byte}
use Rattle.sorting.specs.Passes.{Shows, Put}
use Rattle.sorting.proofs.NodeCodes.{node_leaf, node_two}

-- an operator made the expression z of the operands ys, with the byte b behind theirs
pub record MadeBy (r : Sorted) (ys : List Expression) (v : Bool) (b : ℕ) : Type 0 where
  pub made : Expression
  pub is_made : r ≡ is made
  pub sort : is_vector made ≡ v
  pub bytes : bytes_of made ≡ stack_bytes ys ++ (b ∷ [])

pub made_shows :
    {s r : Sorting} {q : Sorted} {v : Bool} {b down : ℕ} (ys xs : List Expression) →
    MadeBy q ys v b →
    length ys ≡ down →
    Put s down v b r →
    Shows s (going (ys ++ xs)) →
    Shows r (settled q xs)
unfolding settled
made_shows ys xs m n p w = rw m.is_made (p.puts ys xs m.made n w m.sort m.bytes)

-- a name or literal
literal_code : (c : ℕ) → is_node c ≡ true → c < 40 → (c ≡ 0 → ⊥) → 32 + (c - 32) ≡ c
literal_code c k l n =
    let e : (false || leb 32 c) ≡ true = rw (ne_eqb c 0 n) at (node_leaf c k l) in
    omega (arith, leb-true 32 c e)

pub made_leaf :
    (number : ℕ → ℕ) (t : Token) →
    is_node t.code ≡ true →
    t.code < 40 →
    bytes_of (boolean (atom number t)) ≡ leaf_byte number t ∷ []
unfolding bytes_of boolean_bytes atom leaf_byte
made_leaf number t k l = go (eqb t.code 0) refl
  where
    go :
        (q : Bool) →
        eqb t.code 0 ≡ q →
        bytes_of (boolean (if q then name (number t.place) else literal (t.code - 32)))
        ≡ (if q then number t.place else t.code) ∷ []
    go true e = refl
    go false e = ap (λ (c : ℕ). c ∷ []) (literal_code t.code k l (eqb-false _ _ e))

-- one operand
pub made_one :
    (t : Token) (a : Boolean) →
    64 ≤ t.code →
    t.code < 148 →
    MadeBy (of_one t (boolean a)) (boolean a ∷ []) (not (eqb t.code 147)) t.code
unfolding of_one bytes_of boolean_bytes vector_bytes stack_bytes is_vector
made_one t a l h = go (eqb t.code 147) refl
  where
    go :
        (q : Bool) →
        eqb t.code 147 ≡ q →
        MadeBy
        (if q then is (boolean (negated a)) else is (vector (edge (edge_at (t.code - 64)) a)))
        (boolean a ∷ [])
        (not q)
        t.code
    go true e =
        record {
          made = boolean (negated a);
          is_made = refl;
          sort = refl;
          bytes = ap (λ (c : ℕ). boolean_bytes a ++ (c ∷ [])) (sym (eqb-true _ _ e));
        }
    go false e =
        record {
          made = vector (edge (edge_at (t.code - 64)) a);
          is_made = refl;
          sort = refl;
          bytes =
              ap (λ (c : ℕ). boolean_bytes a ++ (c ∷ []))
              (edge_byte l (omega (arith, eqb-false t.code 147 e)));
        }

-- two operands
behind : (xs ys : List ℕ) {b c : ℕ} → b ≡ c → xs ++ (ys ++ (b ∷ [])) ≡ (xs ++ ys) ++ (c ∷ [])
behind xs ys e = rw e (sym (append_assoc xs ys _))

made_two_at : (z : Expression) {q : Sorted} {x y : Expression} {v : Bool} {b c : ℕ} → q ≡ is z
    → is_vector z ≡ v
    → bytes_of z ≡ bytes_of x ++ (bytes_of y ++ (b ∷ [])) → b ≡ c → MadeBy q (y ∷ x ∷ []) v c
unfolding stack_bytes
made_two_at z {q} {x} {y} e s k f =
    record { made = z; is_made = e; sort = s; bytes = k ∙ behind (bytes_of x) (bytes_of y) f }

module _ (t : Token) (k : is_node t.code ≡ true) (l : 40 ≤ t.code) (h : t.code < 60) where
  two_booleans :
      (a b : Boolean) (q : Bool) →
      ltb t.code 50 ≡ q →
      ((if q then t.code else 255) ≡ 255 → ⊥) →
      MadeBy
      (if q then is (boolean (binary (binary_at (t.code - 40)) a b)) else faulty t.place)
      (boolean b ∷ boolean a ∷ [])
      false
      (if q then t.code else 255)
  unfolding bytes_of boolean_bytes is_vector
  two_booleans a b true e n =
      made_two_at (boolean (binary (binary_at (t.code - 40)) a b)) refl refl refl (binary_byte_lem l (ltb-true _ _ e))
  two_booleans a b false e n = absurd (n refl)

  two_vectors :
      (p q : Vector) (x y z : Bool) →
      ltb t.code 50 ≡ z →
      ((if x then 54 else if y then 55 else if z then 255 else t.code) ≡ 255 → ⊥) →
      MadeBy
      (if x then is (vector (join with p q))
      else if y then is (vector (join or_else p q))
      else if z then faulty t.place
      else is (vector (join (join_at (t.code - 50)) p q)))
      (vector q ∷ vector p ∷ [])
      true
      (if x then 54 else if y then 55 else if z then 255 else t.code)
  unfolding bytes_of vector_bytes is_vector join_byte
  two_vectors p q true y z e n = made_two_at (vector (join with p q)) refl refl refl refl
  two_vectors p q false true z e n = made_two_at (vector (join or_else p q)) refl refl refl refl
  two_vectors p q false false true e n = absurd (n refl)
  two_vectors p q false false false e n =
      made_two_at (vector (join (join_at (t.code - 50)) p q)) refl refl refl
      (join_byte_lem (ltb-false _ _ e) (omega (arith, node_two t.code k h)))

  on_its_right :
      (p : Vector) (c : Boolean) (x : Bool) →
      (◌≡◌ {A = ℕ} (if x then 56 else 255) 255 → ⊥) →
      MadeBy
      (if x then is (vector (while on_right p c)) else faulty t.place)
      (boolean c ∷ vector p ∷ [])
      true
      (if x then 56 else 255)
  unfolding bytes_of vector_bytes is_vector
  on_its_right p c true n = made_two_at (vector (while on_right p c)) refl refl refl refl
  on_its_right p c false n = absurd (n refl)

  on_its_left :
      (c : Boolean) (p : Vector) (x : Bool) →
      (◌≡◌ {A = ℕ} (if x then 57 else 255) 255 → ⊥) →
      MadeBy
      (if x then is (vector (while on_left p c)) else faulty t.place)
      (vector p ∷ boolean c ∷ [])
      true
      (if x then 57 else 255)
  unfolding bytes_of vector_bytes is_vector
  on_its_left c p true n = made_two_at (vector (while on_left p c)) refl refl refl refl
  on_its_left c p false n = absurd (n refl)

  pub made_two :
      (x y : Expression) →
      (pair_byte t.code (is_vector x) (is_vector y) ≡ 255 → ⊥) →
      MadeBy (of_two t x y) (y ∷ x ∷ []) (is_vector x || is_vector y) (pair_byte t.code (is_vector x) (is_vector y))
  unfolding of_two pair_byte is_vector
  made_two (boolean a) (boolean b) n = two_booleans a b (ltb t.code 50) refl n
  made_two (boolean a) (vector q) n = on_its_left a q (eqb t.code 40) n
  made_two (vector p) (boolean b) n = on_its_right p b (eqb t.code 40) n
  made_two (vector p) (vector q) n =
      two_vectors p q (eqb t.code 40) (eqb t.code 41) (ltb t.code 50) refl n

  fault_booleans :
      (a b : Boolean) (q : Bool) →
      (if q then t.code else 255) ≡ 255 →
      (if q then is (boolean (binary (binary_at (t.code - 40)) a b)) else faulty t.place) ≡ faulty t.place
  fault_booleans a b true e = absurd (omega arith)
  fault_booleans a b false e = refl

  fault_vectors :
      (p q : Vector) (x y z : Bool) →
      (if x then 54 else if y then 55 else if z then 255 else t.code) ≡ 255 →
      (if x then is (vector (join with p q))
      else if y then is (vector (join or_else p q))
      else if z then faulty t.place
      else is (vector (join (join_at (t.code - 50)) p q)))
      ≡ faulty t.place
  fault_vectors p q true y z e = absurd (omega arith)
  fault_vectors p q false true z e = absurd (omega arith)
  fault_vectors p q false false true e = refl
  fault_vectors p q false false false e = absurd (omega arith)

  fault_mixed : (z : Expression) (x : Bool) (b : ℕ) → b < 60 → (if x then b else 255) ≡ 255
      → (if x then is z else faulty t.place) ≡ faulty t.place
  fault_mixed z true b h e = absurd (omega arith)
  fault_mixed z false b h e = refl

  pub fault_two : (x y : Expression) → pair_byte t.code (is_vector x) (is_vector y) ≡ 255
      → of_two t x y ≡ faulty t.place
  unfolding of_two pair_byte is_vector
  fault_two (boolean a) (boolean b) e = fault_booleans a b (ltb t.code 50) e
  fault_two (boolean a) (vector q) e = fault_mixed (vector (while on_left q a)) (eqb t.code 40) 57 (omega arith) e
  fault_two (vector p) (boolean b) e = fault_mixed (vector (while on_right p b)) (eqb t.code 40) 56 (omega arith) e
  fault_two (vector p) (vector q) e =
      fault_vectors p q (eqb t.code 40) (eqb t.code 41) (ltb t.code 50) e

-- three operands
pub made_three :
    (t : Token) (c a b : Boolean) →
    MadeBy
    (of_three t (boolean c) (boolean a) (boolean b))
    (boolean b ∷ boolean a ∷ boolean c ∷ [])
    false
    60
unfolding of_three bytes_of boolean_bytes stack_bytes is_vector
made_three t c a b =
    record {
      made = boolean (choice c a b);
      is_made = refl;
      sort = refl;
      bytes = simp append_assoc;
    }
