-- The signs of a tree, part by part, where the functions over the tree's bytes look for them.
--   leaf_signs, one_signs, Two, Three        the signs of a node, from those of its operands
--   one_start, two_start, three_start        where the writing of a node's parts begins
use Rattle.std.specs.Prelude.{if◌then◌else◌}
use Prim.Native.Nat.{ℕ, zero, suc, ◌-◌, ◌<◌, ◌≤◌}
use native.Mathlib.Omega.{arith}
use native.Mathlib.Numerals.{sub-one}
use mathlib.Core.Path.{◌≡◌, refl, sym, ap, ◌∙◌}
use mathlib.Core.Bool.{Bool, true, false}
use mathlib.Core.Logic.{◌⊎◌, inl, inr}
use mathlib.Core.List.{List, [], ◌∷◌, ◌++◌, map, map-append, append_assoc, append-nil}
use lib.Dec.{eqb, ltb, leb}
use lib.ListN.{get_or, length}
use borrow.Author.Tests.{ne_eqb}
use Rattle.alf.specs.Decoder.{stack_at}
use Rattle.basics.proofs.Choices.{if_all}
use Rattle.alf.proofs.Parts.{made_last}
use Rattle.grammar.specs.declared.Token.{Token}
use Rattle.grammar.specs.Tokens.{binary}
use Rattle.grammar.specs.Tokens.{kind, kind_of}
use Rattle.grammar.specs.Grammar.{Tree, leaf, two, three}
use Rattle.grammar.specs.Written.{made, fitted, written}
use Rattle.grammar.proofs.Table.{binary_level_lem}
use Rattle.grammar.proofs.Written.{written_leaf, written_one, written_two, written_three}
use Rattle.trees.specs.Parts.{Ends, Start, top}
use Rattle.trees.proofs.Starts.{ends_pos}
use Rattle.writer.specs.Trees.{named, tree_of}
use Rattle.spelling.specs.Signs.{sign}
use Rattle.writer.specs.Layout.{signs, tree_at, code_at, level_at, bracket, opener, closer}
use Rattle.writer.specs.Layout.{Emitting, EmittingTwo, EmittingThree}
use Rattle.basics.proofs.PartByPart.{flat, Going, going_start}
use Rattle.writer.proofs.TokenKinds.{code_binary}
use Rattle.writer.proofs.Nodes.{leaf_node, OneNode, one_node, TwoNode, two_node, ThreeNode, three_node}

sign_made : (c : ℕ) → 0 < c → sign (made c) ≡ c
unfolding sign
sign_made c h = rw (ne_eqb c 0 (λ e. omega arith))

sign_named : (i : ℕ) → sign (named i) ≡ i
unfolding sign
sign_named i = refl

fitted_signs : (l m : ℕ) (ts : List Token) → map sign (fitted l m ts) ≡ opener l m ++ (map sign ts ++ closer l m)
unfolding fitted bracket sign
fitted_signs l m ts = go (leb m l)
  where
    go : (b : Bool) → map sign (if b then ts else made 62 ∷ (ts ++ (made 63 ∷ [])))
        ≡ (if b then [] else 62 ∷ []) ++ (map sign ts ++ (if b then [] else 63 ∷ []))
    go true = sym (append-nil (map sign ts))
    go false = ap (λ (l : List ℕ). 62 ∷ l) (map-append sign ts (made 63 ∷ []))

pub level_bounds : (b : ℕ) → 40 ≤ b → b < 60 → (1 < level_at b) × (level_at b < 6)
level_bounds b l u = binary_level_lem (code_at b) (level_at b) (code_binary b l u)

-- an operator between its operands, and a choice
abbrev pub two_parts : ℕ → ℕ → ℕ → Tree → Tree → List (List ℕ)
two_parts l m c a b = opener l m ∷ signs m a ∷ (c ∷ []) ∷ signs (m - 1) b ∷ closer l m ∷ []

abbrev pub three_parts : ℕ → ℕ → Tree → Tree → Tree → List (List ℕ)
three_parts l c f a b =
    opener l 6 ∷ signs 5 f ∷ (c ∷ []) ∷ signs 6 a ∷ (61 ∷ []) ∷ signs 6 b ∷ closer l 6 ∷ []

fitted_two : (l m : ℕ) (t : Token) (a b : Tree) → kind_of t ≡ binary (suc m)
    → signs l (two t a b) ≡ flat (two_parts l (suc m) (sign t) a b)
unfolding signs
fitted_two l m t a b k =
    rw (sub-one, append-nil)
    (ap (map sign) (written_two l m t a b k) ∙ fitted_signs l (suc m) _
    ∙ ap (λ (x : List ℕ). opener l (suc m) ++ x)
    (ap (λ (x : List ℕ). x ++ closer l (suc m)) (map-append sign (written (suc m) a) (t ∷ written m b))
    ∙ append_assoc (map sign (written (suc m) a)) _ (closer l (suc m))))

made_colon : sign (made 61) ≡ 61
unfolding sign
made_colon = refl

fitted_three : (l : ℕ) (t : Token) (f a b : Tree) → signs l (three t f a b) ≡ flat (three_parts l (sign t) f a b)
unfolding signs
fitted_three l t f a b =
    rw append-nil
    (ap (map sign) (written_three l t f a b) ∙ fitted_signs l 6 _
    ∙ ap (λ (x : List ℕ). opener l 6 ++ x)
    (ap (λ (x : List ℕ). x ++ closer l 6)
    (map-append sign (written 5 f) (t ∷ (written 6 a ++ (made 61 ∷ written 6 b))))
    ∙ append_assoc (map sign (written 5 f)) _ (closer l 6)
    ∙ ap (λ (x : List ℕ). map sign (written 5 f) ++ (sign t ∷ (x ++ closer l 6)))
    (map-append sign (written 6 a) (made 61 ∷ written 6 b))
    ∙ ap (λ (x : List ℕ). map sign (written 5 f) ++ (sign t ∷ x))
    (append_assoc (map sign (written 6 a)) _ (closer l 6)
    ∙ ap (λ (n : ℕ). map sign (written 6 a) ++ (n ∷ (map sign (written 6 b) ++ closer l 6))) made_colon)))

module _ (t : List ℕ) (names end : ℕ) (h : Ends t names end) where
  pub leaf_signs : (l : ℕ) → get_or t (end - 1) 0 < 40 → signs l (tree_at t names end) ≡ get_or t (end - 1) 0 ∷ []
  unfolding signs tree_at
  leaf_signs l k = go (leaf_node names _ (made_last t names end (ends_pos h)) h.whole k)
    where
      go : (tree_of (top (stack_at t names end)) ≡ leaf (named (get_or t (end - 1) 0)))
          ⊎ ((32 ≤ get_or t (end - 1) 0) × (tree_of (top (stack_at t names end)) ≡ leaf (made (get_or t (end - 1) 0))))
          → map sign (written l (tree_of (top (stack_at t names end)))) ≡ get_or t (end - 1) 0 ∷ []
      go (inl e) = rw (e, written_leaf, sign_named)
      go (inr (g, e)) = rw (e, written_leaf, sign_made (get_or t (end - 1) 0) (omega arith))

  one_at : 64 ≤ get_or t (end - 1) 0 → OneNode (get_or t (end - 1) 0) (stack_at t names (end - 1)) (stack_at t names end)
  one_at k = one_node names _ (made_last t names end (ends_pos h)) h.whole k

  pub one_ends : 64 ≤ get_or t (end - 1) 0 → Ends t names (end - 1)
  one_ends k = record { within = omega (arith, h.within); whole = (one_at k).right }

  pub one_signs : (l : ℕ) → 64 ≤ get_or t (end - 1) 0
      → signs l (tree_at t names end)
      ≡ flat ((get_or t (end - 1) 0 ∷ []) ∷ signs 1 (tree_at t names (end - 1)) ∷ [])
  unfolding signs tree_at
  one_signs l k =
      rw ((one_at k).is, append-nil, written_one, sign_made (get_or t (end - 1) 0) (omega arith))

-- what an operator between two operands is made of, m the place where its right operand starts
pub record Two (t : List ℕ) (names end m l : ℕ) : Type 0 where
  pub is : signs l (tree_at t names end)
      ≡ flat (two_parts l (level_at (get_or t (end - 1) 0)) (code_at (get_or t (end - 1) 0)) (tree_at t names m)
      (tree_at t names (end - 1)))
  pub left : Ends t names m

-- and a choice, with k the place where its second operand starts
pub record Three (t : List ℕ) (names end m k l : ℕ) : Type 0 where
  pub is : signs l (tree_at t names end)
      ≡ flat (three_parts l 60 (tree_at t names k) (tree_at t names m) (tree_at t names (end - 1)))
  pub first : Ends t names k

code_positive : (b : ℕ) → 40 ≤ b → 0 < code_at b
unfolding code_at
code_positive b l =
    if_all (λ (n : ℕ). 0 < n) (ltb b 54) (λ _. omega arith)
    (λ _. if_all (λ (n : ℕ). 0 < n) (eqb b 55) (λ _. omega arith) (λ _. omega arith))

two_flat : (l m c : ℕ) (a b : Tree) → kind c ≡ binary m → 0 < m → 0 < c
    → signs l (two (made c) a b) ≡ flat (two_parts l m c a b)
two_flat l zero c a b k h g = absurd (omega arith)
two_flat l (suc m) c a b k h g =
    fitted_two l m (made c) a b k ∙ ap (λ (n : ℕ). flat (two_parts l (suc m) n a b)) (sign_made c g)

module _ (t : List ℕ) (names end : ℕ) (h : Ends t names end) where
  module _ (lo : 40 ≤ get_or t (end - 1) 0) (hi : get_or t (end - 1) 0 < 60) where
    two_at : TwoNode (get_or t (end - 1) 0) (stack_at t names (end - 1)) (stack_at t names end)
    two_at = two_node names _ (made_last t names end (ends_pos h)) h.whole lo hi

    pub two_right : Ends t names (end - 1)
    two_right = record { within = omega (arith, h.within); whole = two_at.right }

    pub two_parts_lem : (l : ℕ) {m : ℕ} → Start t names (end - 1) m → Two t names end m l
    unfolding tree_at
    two_parts_lem l {m} s =
        record {
          is =
              rw (two_at.is, s.left)
              (two_flat l _ _ _ _ (code_binary _ lo hi) (omega (arith, level_bounds _ lo hi)) (code_positive _ lo));
          left = record { within = omega (arith, s.before, h.within); whole = rw s.left two_at.left };
        }

  module _ (lo : 60 ≤ get_or t (end - 1) 0) (hi : get_or t (end - 1) 0 < 64) where
    three_at_lem : ThreeNode (stack_at t names (end - 1)) (stack_at t names end)
    three_at_lem = three_node names _ (made_last t names end (ends_pos h)) h.whole lo hi

    pub three_right : Ends t names (end - 1)
    three_right = record { within = omega (arith, h.within); whole = three_at_lem.right }

    pub three_middle : {m : ℕ} → Start t names (end - 1) m → Ends t names m
    three_middle s =
        record { within = omega (arith, s.before, h.within); whole = rw s.left three_at_lem.left }

    pub three_parts_lem : (l : ℕ) {m k : ℕ} → Start t names (end - 1) m → Start t names m k
        → Three t names end m k l
    unfolding tree_at sign
    three_parts_lem l s r =
        record {
          is = rw (three_at_lem.is, r.left, s.left) (fitted_three l (made 60) _ _ _);
          first =
              record {
                within = omega (arith, s.before, r.before, h.within);
                whole = rw (r.left, s.left) three_at_lem.first;
              };
        }

-- where the writing of an operator and its operands, or of a choice, begins
pub two_start :
    {t : List ℕ} {names end l k m : ℕ} {out : List ℕ} {at : ℕ} →
    EmittingTwo t names end l out at →
    Start t names (end - 1) k →
    m ≡ level_at (get_or t (end - 1) 0) →
    Going out at (signs l (tree_at t names end))
    (two_parts l m (code_at (get_or t (end - 1) 0)) (tree_at t names k) (tree_at t names (end - 1))) out at
two_start {t} {names} {end} {l} h s d =
    rw d
    (going_start _ (two_parts_lem t names end h.whole.ends h.low h.high l s).is h.whole.room)

pub three_start :
    {t : List ℕ} {names end l k m : ℕ} {out : List ℕ} {at : ℕ} →
    EmittingThree t names end l out at →
    Start t names (end - 1) m →
    Start t names m k →
    Going out at (signs l (tree_at t names end))
    (three_parts l 60 (tree_at t names k) (tree_at t names m) (tree_at t names (end - 1))) out at
three_start {t} {names} {end} {l} h s r =
    going_start _ (three_parts_lem t names end h.whole.ends h.low h.high l s r).is h.whole.room

pub one_start :
    {t : List ℕ} {names end l : ℕ} {out : List ℕ} {at : ℕ} →
    Emitting t names end l out at →
    64 ≤ get_or t (end - 1) 0 →
    Going out at (signs l (tree_at t names end))
    ((get_or t (end - 1) 0 ∷ []) ∷ signs 1 (tree_at t names (end - 1)) ∷ []) out at
one_start {t} {names} {end} {l} h k = going_start _ (one_signs t names end h.ends l k) h.room

pub leaf_room :
    {t : List ℕ} {names end l : ℕ} {out : List ℕ} {at : ℕ} →
    Emitting t names end l out at →
    get_or t (end - 1) 0 < 40 →
    at < length out
leaf_room {t} {names} {end} {l} h k = omega (arith, h.room, ap length (leaf_signs t names end h.ends l k))
