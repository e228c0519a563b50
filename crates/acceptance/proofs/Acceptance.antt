-- A tree is accepted exactly if the tests of its kind, its nodes, its brackets and its size say so.
-- Main names: is_over_lem, vector_tree_lem; small_decided, shallow_decided; too_many, no_tree, not_vector;
-- not_boolean, boolean_accepts, vector_accepts, over_accepts; decides_unique; decoded, accepted_bytes,
-- accepted_boolean, accepted_vector, accepted_tree; accepted_any_rules.
use Rattle.std.specs.Prelude.{None, Some}
use Prim.Native.Nat.{ℕ, ◌<◌, ◌≤◌, min}
use native.Mathlib.Omega.{arith}
use mathlib.Core.Path.{◌≡◌, refl, ap, sym, ◌∙◌}
use mathlib.Core.Bool.{Bool, true, false}
use mathlib.Core.List.{List}
use lib.ListN.{length}
use lib.Dec.{leb}
use mathlib.Core.Logic.{◌⊎◌, inl, inr}
use Rattle.std.proofs.lemmas.Bool.Decides.{leb_tells}
use Rattle.std.specs.Option.{is_some}
use Rattle.alf.specs.Expressions.{Vector, Expression, boolean, vector}
use Rattle.alf.specs.Bytes.{bytes_of}
use Rattle.alf.specs.Decoder.{top_vector, is_boolean, is_vector, Decodes}
use Rattle.alf.specs.Alternatives.{alternatives, over_limit}
use Rattle.alf.specs.declared.Rules.{Rules}
use Rattle.alf.specs.declared.Sort.{Sort}
use Rattle.alf.specs.declared.Sort.TheVariants as sort
use Rattle.basics.proofs.Bools.{never}
use Rattle.alf.proofs.Decoding.{decode_unique}
use Rattle.alf.proofs.FewNames.{decodes_encoded, encoded_decodes}
use Rattle.trees.specs.Parts.{is_whole, top, Ends, EndsBoolean, EndsVector}
use Rattle.trees.specs.Parts.{expression_at, vector_at}
use Rattle.trees.specs.Sorts.{tree_kind, Holds}
use Rattle.steady_pins.specs.Finding.{Tree}
use Rattle.trees.proofs.Trees.{kind_decodes}
use Rattle.acceptance.specs.Sizes.{Measured}
use Rattle.acceptance.specs.Sizes.{measured}
use Rattle.acceptance.specs.Accepted.{sort_of_lem, over_size, Accepted, Shallow, Limited}
use Rattle.basics.specs.Deciding.{Decides}
use Rattle.basics.proofs.Deciding.{same_decided}

-- the answer of the size
is_over : Measured → Bool
is_over None = true
is_over (Some s) = false

is_over_lem : (p : Vector) → is_over (measured p) ≡ over_limit (alternatives p)
unfolding is_over measured
is_over_lem p = go (over_limit (alternatives p)) refl
  where
    go : (q : Bool) → over_limit (alternatives p) ≡ q → is_over (measured p) ≡ over_limit (alternatives p)
    go true e = rw e refl
    go false e = rw e refl

pub small_decided : (p : Vector) (m : Measured) → m ≡ measured p
    → Decides (is_some m) (over_limit (alternatives p) ≡ false)
unfolding Decides is_over
small_decided p None h = λ f. never (sym f ∙ sym (is_over_lem p) ∙ ap is_over (sym h))
small_decided p (Some s) h = sym (is_over_lem p) ∙ ap is_over (sym h)

-- the answer of the depth
pub shallow_decided : (x d : ℕ) → d ≡ min 33 x → Decides (leb d 32) (x ≤ 32)
unfolding Decides
shallow_decided x d e = go (leb_tells d 32)
  where
    go : ((leb d 32 ≡ true) × (d ≤ 32)) ⊎ ((leb d 32 ≡ false) × (32 < d)) → Decides (leb d 32) (x ≤ 32)
    go (inl t) = rw t.0 (omega (arith, t.1))
    go (inr t) = rw t.0 (λ h. omega (arith, t.1))

is_vector_sort : Sort → Bool
is_vector_sort sort.Boolean = false
is_vector_sort sort.Vector = true

-- the expression that a tree is, at its end
pub decoded : (n : ℕ) (tree : List ℕ) (e : Expression) → Decodes n tree e
    → expression_at tree n (length tree) ≡ e
unfolding Decodes top
decoded n tree e h = ap top h

-- the stack says of an accepted tree what is asked of its bytes
pub accepted_decodes : {ρ : Rules} {n : ℕ} {sort : Sort} {tree : List ℕ} (a : Accepted ρ n sort tree)
    → Decodes n tree a.expression
accepted_decodes {n} {tree = tree} a = encoded_decodes n tree a.expression a.encodes

-- the expression that an accepted tree is has its bytes
pub accepted_bytes : {ρ : Rules} {n : ℕ} {sort : Sort} {tree : List ℕ} → Accepted ρ n sort tree
    → bytes_of (expression_at tree n (length tree)) ≡ tree
accepted_bytes {n} {tree = tree} a =
    ap bytes_of (decoded n tree a.expression (accepted_decodes a)) ∙ a.encodes.bytes

module _ (t : List ℕ) (names : ℕ) where
  vector_at_end : (p : Vector) → Decodes names t (vector p) → vector_at t names (length t) ≡ p
  unfolding Decodes top_vector
  vector_at_end p h = ap top_vector h

  whole_end : (e : Expression) → Decodes names t e → Ends t names (length t)
  unfolding Decodes is_whole
  whole_end e h = record { within = omega arith; whole = ap is_whole h }

  is_boolean_lem : tree_kind t names ≡ Some sort.Boolean → Holds (Some sort.Boolean) (Decodes names t)
  is_boolean_lem k = rw k at (kind_decodes t names)

  is_vector_lem : tree_kind t names ≡ Some sort.Vector → Holds (Some sort.Vector) (Decodes names t)
  is_vector_lem k = rw k at (kind_decodes t names)

  pub boolean_ends : tree_kind t names ≡ Some sort.Boolean → Ends t names (length t)
  unfolding Holds
  boolean_ends k = whole_end _ (is_boolean_lem k).1

  pub vector_ends : tree_kind t names ≡ Some sort.Vector → EndsVector t names (length t)
  unfolding Holds Decodes is_vector
  vector_ends k = record { within = omega arith; whole = ap is_vector (is_vector_lem k).1 }

  pub vector_tree_lem : tree_kind t names ≡ Some sort.Vector → length t ≤ 256 → Tree t names (length t)
  vector_tree_lem k l = record { ends = vector_ends k; few = l }

  module _ (ρ : Rules) (s : Sort) where
    shallow : Accepted ρ names s t → Shallow t names
    shallow a = rw (decoded names t a.expression (accepted_decodes a)) a.brackets

    pub too_many : 256 < length t → Decides false (Accepted ρ names s t)
    unfolding Decides
    too_many l = λ a. let n = a.tokens in omega arith

    pub no_tree : tree_kind t names ≡ None → Decides false (Accepted ρ names s t)
    unfolding Decides Holds
    no_tree k = λ a. (rw k at (kind_decodes t names)) a.expression (accepted_decodes a)

    -- the sort of the expression, where the tree is of a kind
    sort_is : (e : Expression) → Decodes names t e → Accepted ρ names s t → sort_of_lem e ≡ s
    sort_is e h a = ap sort_of_lem (decode_unique names t e a.expression h (accepted_decodes a)) ∙ a.sorted

    pub not_vector : tree_kind t names ≡ Some sort.Boolean → s ≡ sort.Vector → Decides false (Accepted ρ names s t)
    unfolding Decides Holds sort_of_lem is_vector_sort
    not_vector k e = λ a. never (ap is_vector_sort (sort_is _ (is_boolean_lem k).1 a ∙ e))

    pub not_boolean : tree_kind t names ≡ Some sort.Vector → s ≡ sort.Boolean → Decides false (Accepted ρ names s t)
    unfolding Decides Holds sort_of_lem is_vector_sort
    not_boolean k e = λ a. never (sym (ap is_vector_sort (sort_is _ (is_vector_lem k).1 a ∙ e)))

    pub boolean_accepts : (r : Bool) → tree_kind t names ≡ Some sort.Boolean → s ≡ sort.Boolean → length t ≤ 256
        → Decides r (Shallow t names) → Decides r (Accepted ρ names s t)
    unfolding Holds sort_of_lem over_size
    boolean_accepts r k e l =
        let (c, h) = is_boolean_lem k in
        same_decided (Shallow t names) (Accepted ρ names s t) r
        (λ d. record {
          expression = boolean c;
          encodes = decodes_encoded names t (boolean c) h;
          sorted = sym e;
          tokens = l;
          brackets = rw (decoded names t (boolean c) h) at d;
          sized = refl;
        })
        shallow

    module _ (k : tree_kind t names ≡ Some sort.Vector) where
      pub vector_accepts : (r : Bool) → s ≡ sort.Vector → length t ≤ 256
          → Decides true (Limited ρ t names)
          → Decides r (Shallow t names) → Decides r (Accepted ρ names s t)
      unfolding Holds sort_of_lem over_size Decides
      vector_accepts r e l f =
          let (p, h) = is_vector_lem k in
          same_decided (Shallow t names) (Accepted ρ names s t) r
          (λ d. record {
            expression = vector p;
            encodes = decodes_encoded names t (vector p) h;
            sorted = sym e;
            tokens = l;
            brackets = rw (decoded names t (vector p) h) at d;
            sized = rw (vector_at_end p h) at f;
          })
          shallow

      pub over_accepts : Decides false (Limited ρ t names)
          → Decides false (Accepted ρ names s t)
      unfolding Holds over_size Decides
      over_accepts f = λ a.
          let (p, h) = is_vector_lem k in
          let e = decode_unique names t (vector p) a.expression h (accepted_decodes a) in
          f (rw (vector_at_end p h) (ap (over_size ρ) e ∙ a.sized))

-- a test says one thing only
pub decides_unique : (P : Type 0) (q r : Bool) → Decides q P → Decides r P → q ≡ r
unfolding Decides
decides_unique P true true h k = refl
decides_unique P true false h k = absurd (k h)
decides_unique P false true h k = absurd (h k)
decides_unique P false false h k = refl

-- what an accepted tree ends with
pub accepted_boolean : {ρ : Rules} (t : List ℕ) (names : ℕ) → Accepted ρ names sort.Boolean t
    → EndsBoolean t names (length t)
unfolding Decodes is_boolean is_vector sort_of_lem is_vector_sort
accepted_boolean t names a = go a.expression (accepted_decodes a) a.sorted
  where
    go : (e : Expression) → Decodes names t e → sort_of_lem e ≡ sort.Boolean → EndsBoolean t names (length t)
    go (boolean c) h k = record { within = omega arith; whole = rw h refl }
    go (vector p) h k = never (sym (ap is_vector_sort k))

pub accepted_vector : {ρ : Rules} (t : List ℕ) (names : ℕ) → Accepted ρ names sort.Vector t
    → EndsVector t names (length t)
unfolding Decodes is_boolean is_vector sort_of_lem is_vector_sort
accepted_vector t names a = go a.expression (accepted_decodes a) a.sorted
  where
    go : (e : Expression) → Decodes names t e → sort_of_lem e ≡ sort.Vector → EndsVector t names (length t)
    go (boolean c) h k = never (ap is_vector_sort k)
    go (vector p) h k = record { within = omega arith; whole = rw h refl }

pub accepted_tree : {ρ : Rules} (t : List ℕ) (names : ℕ) → Accepted ρ names sort.Vector t → Tree t names (length t)
accepted_tree t names a = record { ends = accepted_vector t names a; few = a.tokens }

-- of a boolean expression the rules say nothing
boolean_sized : (ρ : Rules) (e : Expression) → sort_of_lem e ≡ sort.Boolean → over_size ρ e ≡ false
unfolding sort_of_lem over_size is_vector_sort
boolean_sized ρ (boolean c) k = refl
boolean_sized ρ (vector p) k = never (sym (ap is_vector_sort k))

pub accepted_any_rules : {ρ : Rules} {n : ℕ} {tree : List ℕ} (ρ' : Rules) → Accepted ρ n sort.Boolean tree
    → Accepted ρ' n sort.Boolean tree
accepted_any_rules ρ' a =
    record {
      expression = a.expression;
      encodes = a.encodes;
      sorted = a.sorted;
      tokens = a.tokens;
      brackets = a.brackets;
      sized = boolean_sized ρ' a.expression a.sorted;
    }
