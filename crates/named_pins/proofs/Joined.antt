-- Tables that keep some pins too, and how one is filled from a tree's bytes.
--   joined_length, joined_same     a table's length stays; pins that are the same for the table
--   Marking                        the pins of a tree's first bytes are marked
--   marking_first, marking_next, marking_end
--   marks_named                    the pins marked are those that the expression names
use Rattle.std.specs.Prelude.{if◌then◌else◌}
use Prim.Native.Nat.{ℕ, ◌+◌, ◌<◌, ◌≤◌}
use native.Mathlib.Nat.{zero-add}
use native.Mathlib.Numerals.{add-one}
use native.Mathlib.Omega.{arith}
use mathlib.Core.Path.{◌≡◌, refl, ap, sym, ◌∙◌}
use mathlib.Core.Bool.{Bool, false}
use mathlib.Core.Logic.{◌⊎◌, inl, inr}
use mathlib.Core.List.{List, [], ◌∷◌, ◌++◌}
use lib.ListN.{length, get_or, set, take, length-set}
use lib.Seq.{ext_get_or, get_or-set_same, get_or-set_other, take-suc, take_all}
use borrow.Author.Tests.{eq-eqb, ne_eqb}
use Rattle.basics.proofs.Bools.{equal?, or_yes}
use Rattle.basics.proofs.Listed.{listed_length, listed_at, listed_same}
use Rattle.alf.specs.Expressions.{Expression}
use Rattle.alf.specs.Bytes.{bytes_of}
use Rattle.alf.specs.States.{among}
use Rattle.named_pins.specs.Pins.{named}
use Rattle.named_pins.specs.Tables.{joined, Marks}
use Rattle.named_pins.proofs.NamedBytes.{or_none, among_append, among_one, bytes_named}

module _ (pins : ℕ → Bool) (kept : List ℕ) where
  pub joined_length : length (joined pins kept) ≡ length kept
  unfolding joined
  joined_length = listed_length 0 (length kept) _

  pub joined_at : (n : ℕ) → n < length kept → get_or (joined pins kept) n 0 ≡ (if pins n then 1 else get_or kept n 0)
  unfolding joined
  joined_at n l =
      listed_at 0 (length kept) n (λ m. if pins m then 1 else get_or kept m 0) 0 l ∙ rw (zero-add n) refl

pub joined_same : (pins pins' : ℕ → Bool) (kept : List ℕ) → ((n : ℕ) → n < length kept → pins n ≡ pins' n)
    → joined pins kept ≡ joined pins' kept
unfolding joined
joined_same pins pins' kept h =
    listed_same _ _ 0 (length kept)
    (λ n l. ap (λ (q : Bool). if q then 1 else get_or kept n 0) (h n (omega arith)))

joined_none : (kept : List ℕ) → joined (λ n. false) kept ≡ kept
joined_none kept =
    ext_get_or 0 (joined (λ n. false) kept) kept (joined_length (λ n. false) kept)
    (λ n l. joined_at (λ n. false) kept n (omega (arith, joined_length (λ n. false) kept)))

-- one pin more
module _ (t kept : List ℕ) (b : ℕ) where
  entry : (n : ℕ) → n < length kept
      → get_or (set (joined (λ n. among n t) kept) b 1) n 0 ≡ get_or (joined (λ n. among n (t ++ (b ∷ []))) kept) n 0
  entry n l = go (equal? n b)
    where
      inside : n < length (joined (λ n. among n t) kept)
      inside = omega (arith, joined_length (λ n. among n t) kept)

      go : (n ≡ b) ⊎ (n ≡ b → ⊥)
          → get_or (set (joined (λ n. among n t) kept) b 1) n 0 ≡ get_or (joined (λ n. among n (t ++ (b ∷ []))) kept) n 0
      go (inl e) =
          rw (joined_at (λ n. among n (t ++ (b ∷ []))) kept n l, among_append n t (b ∷ []), among_one n b)
          (rw (eq-eqb b n (sym e), or_yes (among n t), sym e)
          (get_or-set_same (joined (λ n. among n t) kept) n 1 0 inside))
      go (inr d) =
          rw (joined_at (λ n. among n (t ++ (b ∷ []))) kept n l, among_append n t (b ∷ []), among_one n b)
          (rw (ne_eqb b n (λ e. d (sym e)), or_none (among n t))
          (get_or-set_other (joined (λ n. among n t) kept) b n 1 0 d ∙ joined_at (λ n. among n t) kept n l))

  joined_next : set (joined (λ n. among n t) kept) b 1 ≡ joined (λ n. among n (t ++ (b ∷ []))) kept
  joined_next =
      let old = joined_length (λ n. among n t) kept in
      let new = joined_length (λ n. among n (t ++ (b ∷ []))) kept in
      let same = length-set (joined (λ n. among n t) kept) b 1 in
      ext_get_or 0 _ _ (same ∙ old ∙ sym new) (λ n l. entry n (omega (arith, old, same)))

-- the pins of the first i bytes are marked
pub record Marking (tree kept kept' : List ℕ) (i : ℕ) : Type 0 where
  pub within : i ≤ length tree
  pub is : kept' ≡ joined (λ n. among n (take i tree)) kept

pub marking_first : {tree kept : List ℕ} → Marking tree kept kept 0
unfolding among
marking_first {kept = kept} = record { within = omega arith; is = sym (joined_none kept) }

module _ {tree kept kept' : List ℕ} {i : ℕ} (m : Marking tree kept kept' i) where
  pub marking_length : length kept' ≡ length kept
  marking_length = ap length m.is ∙ joined_length _ kept

  pub marking_next : {kept'' : List ℕ} → i < length tree → kept'' ≡ set kept' (get_or tree i 0) 1
      → Marking tree kept kept'' (i + 1)
  marking_next h e =
      record {
        within = omega arith;
        is =
            rw (add-one, take-suc tree i 0 h)
            (e ∙ ap (λ (l : List ℕ). set l (get_or tree i 0) 1) m.is
            ∙ joined_next (take i tree) kept (get_or tree i 0));
      }

  pub marking_end : length tree ≤ i → Marks tree kept kept'
  marking_end h = record { is = rw (take_all i tree h) at m.is }

-- of a table of at most 32 pins, the pins marked are those that the expression names
pub marks_named : (x : Expression) {tree kept kept' : List ℕ} → bytes_of x ≡ tree → length kept ≤ 32
    → Marks tree kept kept' → kept' ≡ joined (named x) kept
marks_named x {tree} {kept} e few m =
    m.is ∙ joined_same (λ n. among n tree) (named x) kept
    (λ n l. ap (among n) (sym e) ∙ bytes_named n (omega arith) x)
