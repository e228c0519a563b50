-- Whether an expression's text can be read back is what writing it out decides.
--   readable-yes, readable-no      the three tests by cases
--   readable_passed, passed_readable      of an edge of an operand: readable exactly where nothing is refused
--   told, untold      what is told where it is written, and where it is refused
use Rattle.std.specs.Prelude.{Err, Ok}
use Prim.Native.Nat.{ℕ, ◌≤◌}
use native.Mathlib.Omega.{arith}
use mathlib.Core.Path.{◌≡◌, refl, sym, ap, ◌∙◌}
use mathlib.Core.Bool.{Bool, true, false, ◌&&◌}
use mathlib.Core.List.{List}
use lib.Dec.{leb}
use lib.ListN.{length, take}
use lib.Seq.{take_at}
use borrow.Author.Tests.{leb-true, leb-false}
use Rattle.alf.specs.Names.{names_in}
use Rattle.basics.specs.Refusing.{Outcome}
use Rattle.basics.specs.declared.Refusal.{Refusal}
use Rattle.alf.specs.declared.Sort.TheVariants.{Vector}
use Rattle.basics.specs.Words.{greatest_of, sum_of}
use Rattle.alf.specs.Values.{old_rules_lem}
use Rattle.alf.specs.Steady.{meant}
use Rattle.alf.specs.Expressions.{Boolean, Edge, Expression, vector, edge}
use Rattle.alf.specs.Bytes.{bytes_of, vector_bytes}
use Rattle.alf.specs.Decoder.{edge_at, Decodes}
use Rattle.alf.specs.Alternatives.{alternatives, over_limit, tests}
use Rattle.alf.specs.Refusals.{Passed, Comes}
use Rattle.basics.proofs.Bools.{and_left, and_right}
use Rattle.alf.proofs.Decoding.{bytes_decode, decode_unique}
use Rattle.alf.proofs.FewNames.{decodes_encoded}
use Rattle.alf.proofs.Outcomes.{refused_passed}
use Rattle.trees.specs.Parts.{expression_at, boolean_at}
use Rattle.trees.specs.Brackets.{depth_of}
use Rattle.acceptance.specs.Accepted.{Accepted, sort_of_lem, over_size}
use Rattle.acceptance.proofs.Acceptance.{decoded, accepted_decodes}
use Rattle.writer.specs.Trees.{text}
use Rattle.writer.specs.Writing.{text_at, order, Writes}
use Rattle.basics.specs.Memory.{Holds}
use Rattle.basics.specs.Memory.{after}
use Rattle.names.proofs.Few.{names_few}
use Rattle.basics.specs.Text.{bytes}
use Rattle.alternative_texts.specs.Texts.{readable, shown, missing}
use Rattle.alternative_texts.specs.Inner.{ShowsTest, Tellable, Testable}
use Rattle.alternative_texts.proofs.PartBytes.{laid_decodes}

-- an edge of an operand has one alternative with one step and one test; it is asked as the writer asks
edge_sized : (e : Edge) (c : Boolean) → over_size old_rules_lem (vector (edge e c)) ≡ false
unfolding over_size meant over_limit alternatives tests greatest_of sum_of
edge_sized e c = refl

module _ {names tree list : List ℕ} (h : Tellable names tree list) where
  abbrev x : Expression
  x = vector (edge h.of_edge h.operand)

  abbrev it : Expression
  it = expression_at tree (names_in names) (length tree)

  is : it ≡ x
  is = decoded (names_in names) tree x h.decodes

  size : length (bytes_of x) ≡ length tree
  size = ap length (bytes_decode (names_in names) tree x h.decodes)

  accepted : length tree ≤ 256 → depth_of x ≤ 32 → Accepted old_rules_lem (names_in names) Vector tree
  unfolding sort_of_lem
  accepted l d =
      record {
        expression = x;
        encodes = decodes_encoded (names_in names) tree x h.decodes;
        sorted = refl;
        tokens = l;
        brackets = d;
        sized = edge_sized h.of_edge h.operand;
      }

  shallow : Accepted old_rules_lem (names_in names) Vector tree → depth_of x ≤ 32
  shallow a =
      rw (decode_unique (names_in names) tree x a.expression h.decodes (accepted_decodes a)) a.brackets

  text_is : text_at names tree ≡ text names x
  unfolding text_at
  text_is = ap (text names) is

  readable_short : readable names x ≡ true → length (text names x) ≤ 4096
  unfolding readable
  readable_short e =
      leb-true _ 4096 (and_right (leb (depth_of x) 32) _ (and_right (leb (length (bytes_of x)) 256) _ e))

  readable_passed : readable names x ≡ true → Passed (order names tree Vector (length list))
  unfolding readable Passed order
  readable_passed e =
      let a = leb-true (length (bytes_of x)) 256
      (and_left _ (leb (depth_of x) 32 && leb (length (text names x)) 4096) e) in
      let f = and_right (leb (length (bytes_of x)) 256) (leb (depth_of x) 32 && leb (length (text names x)) 4096) e in
      let b = leb-true (depth_of x) 32 (and_left _ (leb (length (text names x)) 4096) f) in
      let c = readable_short e in (
        h.named.passed.0,
        (
          h.named.passed.1.0,
          (
            λ p r. r.given (accepted (omega (arith, a, size)) b),
            (
              λ p r. omega (arith, r.given, ap length text_is, c),
              (λ p r. omega (arith, r.given, ap length text_is, c, h.room), tt),
            ),
          ),
        ),
      )

  all_three : (p q r : Bool) → (p ≡ false → ⊥) → (q ≡ false → ⊥) → (r ≡ false → ⊥)
      → (p && (q && r)) ≡ true
  all_three true true true f g k = refl
  all_three false q r f g k = absurd (f refl)
  all_three true false r f g k = absurd (g refl)
  all_three true true false f g k = absurd (k refl)

  passed_readable : Passed (order names tree Vector (length list)) → readable names x ≡ true
  unfolding readable Passed order
  passed_readable p =
      let no : (Accepted old_rules_lem (names_in names) Vector tree → ⊥) → ⊥ =
      λ f. p.1.1.0 0 (record { given = f; there = refl }) in
      all_three _ _ _
      (λ e. let k = leb-false (length (bytes_of x)) 256 e in no (λ a. omega (arith, k, size, a.tokens)))
      (λ e. let k = leb-false (depth_of x) 32 e in no (λ a. omega (arith, k, shallow a)))
      (λ e. let k = leb-false (length (text names x)) 4096 e in
      p.1.1.1.0 4096 (record { given = omega (arith, k, ap length text_is); there = refl }))

  yes : readable names x ≡ true → shown names it ≡ text_at names tree
  unfolding shown
  yes e = rw (is, e) (sym text_is)

  no : readable names x ≡ false → shown names it ≡ bytes "..."
  unfolding shown
  no e = rw (is, e) refl

  none_missing : readable names x ≡ true → missing names it ≡ 0
  unfolding missing
  none_missing e = rw (is, e) refl

  one_missing : readable names x ≡ false → missing names it ≡ 1
  unfolding missing
  one_missing e = rw (is, e) refl

  module _ {list' : List ℕ} {o : Outcome} (w : Writes names tree Vector list list' o) where
    pub told : {n : ℕ} → o ≡ Ok n → ShowsTest names it list' n 0
    unfolding Comes Passed after order
    told {n} e =
        let u = rw e at w.outcome in
        let m = rw e at w.memory in
        let y = passed_readable u.0 in
        record {
          holds =
              record {
                front = ap (take n) m ∙ take_at (text_at names tree) _ n (sym u.1) ∙ sym (yes y);
                size = u.1 ∙ ap length (sym (yes y));
              };
          few = omega (arith, u.1, ap length text_is, readable_short y);
          untold_is = sym (none_missing y);
        }

    refused : {r : Refusal} → o ≡ Err r → readable names x ≡ false
    unfolding Comes
    refused {r} e = go (readable names x) refl
      where
        go : (q : Bool) → readable names x ≡ q → readable names x ≡ false
        go true d = absurd (refused_passed (order names tree Vector (length list)) r.number r.place
            (readable_passed d) (rw e at w.outcome).by)
        go false d = d

    pub untold : {r : Refusal} {list'' : List ℕ} {n : ℕ} → o ≡ Err r → Holds list'' n (bytes "...")
        → ShowsTest names it list'' n 1
    unfolding bytes
    untold e d =
        let f = refused e in
        record {
          holds = record { front = d.front ∙ sym (no f); size = d.size ∙ ap length (sym (no f)) };
          few = omega (arith, d.size);
          untold_is = sym (one_missing f);
        }

-- of other bytes of the same expression
tells_as : {names : List ℕ} (tree : List ℕ) {list : List ℕ} {e : Expression} {n m : ℕ}
    → Decodes (names_in names) tree e
    → ShowsTest names (expression_at tree (names_in names) (length tree)) list n m → ShowsTest names e list n m
tells_as {names} tree {e = e} d t = rw (decoded (names_in names) tree e d) at t

-- a test, by the bytes that are laid
module _ {names tree list : List ℕ} {end n : ℕ} (k : ℕ) (h : Testable names tree end)
    (l : Holds list n (vector_bytes (edge (edge_at k) (boolean_at tree (names_in names) end)))) where
  decodes : Decodes (names_in names) (take n list) (vector (edge (edge_at k) (boolean_at tree (names_in names) end)))
  decodes = rw l.front (laid_decodes k h.ends (names_few names h.named.passed))

  pub tellable : (text : List ℕ) → length text ≡ 4096 → Tellable names (take n list) text
  tellable text e =
      record {
        named = h.named;
        of_edge = edge_at k;
        operand = boolean_at tree (names_in names) end;
        decodes = decodes;
        room = e;
      }

  pub test_told : {text : List ℕ} {m u : ℕ}
      → ShowsTest names (expression_at (take n list) (names_in names) (length (take n list))) text m u
      → ShowsTest names (vector (edge (edge_at k) (boolean_at tree (names_in names) end))) text m u
  test_told t = tells_as (take n list) decodes t
