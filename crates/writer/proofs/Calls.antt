-- What the call and its parts are proved by.
--   delivered_long, delivered_short, delivered   the end of the call: 1, 9, or done
--   names_named, names_new                       what checked names are
--   under_old, not_old                           accepted, and not, under the rules that are asked
--   refused_names, refused_tree, names_passed    18, 12 and 10, before the text is made
--   laid, lined, wrote                           an accepted tree is laid out, spelled and delivered
use Rattle.std.specs.Prelude.{Err, Ok}
use Prim.Native.Nat.{ℕ, ◌+◌, ◌/◌, ◌<◌, ◌≤◌}
use native.Mathlib.Omega.{arith}
use mathlib.Core.Path.{◌≡◌, refl, sym, ap, ◌∙◌}
use mathlib.Core.Bool.{Bool, true, false}
use mathlib.Core.Logic.{inl, inr}
use mathlib.Core.List.{List, ◌++◌}
use lib.ListN.{length, get_or, take, drop, length-map}
use lib.Seq.{sets-eq, get_or-take}
use Rattle.alf.specs.declared.Sort.{Sort}
use Rattle.alf.specs.declared.Rules.{Rules}
use Rattle.basics.specs.declared.Refusal.{Refusal}
use Rattle.basics.specs.Refusing.{refusal}
use Rattle.basics.specs.Refusing.{Outcome}
use Rattle.alf.specs.Names.{names_in, is_name, name_at}
use Rattle.alf.specs.Expressions.{Expression, ExpressionOver}
use Rattle.alf.specs.Values.{old_rules_lem}
use Rattle.alf.specs.Bytes.{bytes_of}
use Rattle.alf.specs.Decoder.{Decodes}
use Rattle.basics.proofs.Bools.{never}
use Rattle.alf.proofs.Decoding.{bytes_decode, decode_over}
use Rattle.alf.specs.Refusals.{RefusedWith, Passed, Comes}
use Rattle.grammar.specs.Written.{written}
use Rattle.trees.specs.Parts.{Ends, is_whole, expression_at}
use Rattle.names.proofs.Few.{names_few}
use Rattle.names.specs.Check.{names_order}
use Rattle.alf.proofs.Orders.{none_first}
use Rattle.acceptance.specs.Accepted.{Accepted}
use Rattle.acceptance.proofs.Acceptance.{decoded, accepted_decodes}
use Rattle.writer.specs.Trees.{tree_of}
use Rattle.writer.specs.Trees.{text}
use Rattle.spelling.specs.Signs.{sign, line_from}
use Rattle.writer.specs.Layout.{signs, tree_at}
use Rattle.spelling.specs.Inner.{Spellable}
use Rattle.basics.specs.Memory.{Put}
use Rattle.writer.specs.Writing.{text_at, order, Writes, Named, Layable, Linable}
use Rattle.basics.specs.Memory.{Holds}
use Rattle.basics.specs.Memory.{after}
use Rattle.writer.specs.Writing.{end_order, Delivers}
use Rattle.spelling.proofs.Reading.{AllKnown}
use Rattle.writer.proofs.Known.{written_known, tree_known, written_short, nodes_bytes}
use Rattle.spelling.proofs.Lines.{line_text, text_short, signs_spellable}

-- 1, 9, or the text at the front
pub delivered_long : {w out : List ℕ} → 4096 < length w
    → Delivers w out out (Err (refusal 1 4096))
unfolding Comes RefusedWith end_order after
delivered_long h =
    record {
      outcome = record { by = inl (refl, record { given = h; there = refl }); bare = refl };
      memory = refl;
    }

pub delivered_short : {w out : List ℕ} → length w ≤ 4096 → length out < length w
    → Delivers w out out (Err (refusal 9 (length w)))
unfolding Comes RefusedWith end_order after
delivered_short h k =
    record {
      outcome =
          record {
            by = inr ((λ p r. omega (arith, r.given)), inl (refl, record { given = k; there = refl }));
            bare = refl;
          };
      memory = refl;
    }

pub delivered : {w out out' : List ℕ} {r : ℕ} → length w ≤ 4096 → length w ≤ length out
    → Put out 0 w out' r → Delivers w out out' (Ok (length w))
unfolding Comes Passed end_order after
delivered {w} {out} h k p =
    let e : ◌≡◌ {A = ℕ} (0 + length w) (length w) = omega arith in
    let z : 0 + length w ≤ length out = omega arith in
    record {
      outcome = (((λ p r. omega (arith, r.given)), ((λ p r. omega (arith, r.given)), tt)), refl);
      memory =
          p.bytes ∙ sets-eq w out 0 z ∙ ap (λ (n : ℕ). w ++ drop n out) e;
    }

-- what checked names are: names, and all different
module _ {names : List ℕ} (h : Named names) where
  pub names_named : (i : ℕ) → i < length names / 32 → is_name (name_at names i) ≡ true
  unfolding Passed
  names_named i l = go (is_name (name_at names i)) refl
    where
      go : (b : Bool) → is_name (name_at names i) ≡ b → is_name (name_at names i) ≡ true
      go true e = e
      go false e = absurd (none_first _ h.passed.1.0 i (l, λ g. never (sym e ∙ g.named)))

  pub names_new : (i : ℕ) → i < length names / 32 → (j : ℕ) → j < i → name_at names j ≡ name_at names i
      → ⊥
  unfolding Passed
  names_new i l j k e = none_first _ h.passed.1.0 i (l, λ g. g.new j k e)

-- the call's order: the names, 10, and the end
abbrev done : List ℕ → List ℕ → ℕ → Type 0
done names tree k = k ≡ length (text_at names tree)

module _ (names tree : List ℕ) (sort : Sort) (room : ℕ) where
  names_refused : (n p : ℕ) → RefusedWith (names_order names) n p → RefusedWith (order names tree sort room) n p
  unfolding RefusedWith order
  names_refused n p (inl x) = inl x
  names_refused n p (inr (m, inl x)) = inr (m, inl x)
  names_refused n p (inr (m, inr (l, x))) = absurd x

  comes_names : (made : ℕ → Type 0) (r : Refusal) → Comes (names_order names) made (Err r)
      → Comes (order names tree sort room) (done names tree) (Err r)
  unfolding Comes
  comes_names made r x = record { by = names_refused r.number r.place x.by; bare = x.bare }

  comes_ten : Named names → (Accepted old_rules_lem (names_in names) sort tree → ⊥)
      → Comes (order names tree sort room) (done names tree) (Err (refusal 10 0))
  unfolding Comes RefusedWith Passed order
  comes_ten h f =
      record {
        by = inr (h.passed.0, inr (h.passed.1.0, inl (refl, record { given = f; there = refl })));
        bare = refl;
      }

  comes_end : Named names → Accepted old_rules_lem (names_in names) sort tree → (r : Outcome)
      → Comes (end_order (text_at names tree) room) (done names tree) r
      → Comes (order names tree sort room) (done names tree) r
  unfolding Comes RefusedWith Passed order end_order
  comes_end h a (Ok k) x = ((h.passed.0, (h.passed.1.0, ((λ p y. y.given a), x.0))), x.1)
  comes_end h a (Err q) x =
      record {
        by = inr (h.passed.0, inr (h.passed.1.0, inr ((λ p y. y.given a), x.by)));
        bare = x.bare;
      }

-- the rules that are asked under are document 01's
module _ {ρ : Rules} {n : ℕ} {sort : Sort} {tree : List ℕ} (e : ρ ≡ old_rules_lem) where
  pub under_old : Accepted ρ n sort tree → Accepted old_rules_lem n sort tree
  under_old a = rw e at a

  pub not_old : (Accepted ρ n sort tree → ⊥) → Accepted old_rules_lem n sort tree → ⊥
  not_old f a = f (rw e a)

-- refused before the text is made
pub refused_names : {names tree : List ℕ} {sort : Sort} {out : List ℕ} (made : ℕ → Type 0) {r : Refusal}
    {o : Outcome}
    → Comes (names_order names) made o → o ≡ Err r → Writes names tree sort out out (Err r)
unfolding after
refused_names {names} {tree} {sort} {out} made {r} x e =
    record { outcome = comes_names names tree sort (length out) made r (rw e at x); memory = refl }

pub refused_tree : {names tree : List ℕ} {sort : Sort} {out : List ℕ} {o : Outcome}
    → Named names → (Accepted old_rules_lem (names_in names) sort tree → ⊥)
    → o ≡ Err (refusal 10 0)
    → Writes names tree sort out out o
unfolding after
refused_tree {names} {tree} {sort} {out} h f e =
    rw e (record { outcome = comes_ten names tree sort (length out) h f; memory = refl })

pub names_passed : {names : List ℕ} (made : ℕ → Type 0) {k : ℕ} {o : Outcome}
    → Comes (names_order names) made o
    → o ≡ Ok k → Named names
unfolding Comes
names_passed made x e = record { passed = (rw e at x).0 }

module _ {names tree : List ℕ} {sort : Sort} (h : Named names) (a : Accepted old_rules_lem (names_in names) sort tree) where
  abbrev e : Expression
  e = expression_at tree (names_in names) (length tree)

  over : ExpressionOver (names_in names) e
  over =
      rw (decoded (names_in names) tree a.expression (accepted_decodes a))
      (decode_over (names_in names) tree a.expression (accepted_decodes a))

  bytes : length (bytes_of e) ≡ length tree
  bytes =
      rw (decoded (names_in names) tree a.expression (accepted_decodes a))
      (ap length (bytes_decode (names_in names) tree a.expression (accepted_decodes a)))

  tokens : AllKnown names (written 6 (tree_of e))
  tokens = written_known 6 (tree_known (names_named h) e over)

  few : length (written 6 (tree_of e)) ≤ 1024
  few = omega (arith, written_short (tree_of e) 6, nodes_bytes e, bytes, a.tokens)

  ends : Ends tree (names_in names) (length tree)
  unfolding Decodes is_whole
  ends = record { within = omega arith; whole = rw (accepted_decodes a) refl }

  pub laid : Layable tree (names_in names)
  unfolding signs tree_at
  laid = record { ends = ends; few = rw length-map few }

  module _ {list : List ℕ} {count : ℕ}
      (k : Holds list count (signs 6 (tree_at tree (names_in names) (length tree)))) where
    pub line_is : line_from names 0 (take count list) ≡ text_at names tree
    unfolding signs tree_at text_at text
    line_is = ap (line_from names 0) k.front ∙ line_text (names_few names h.passed) tokens

    counted : count ≡ length (written 6 (tree_of e))
    unfolding signs tree_at
    counted = k.size ∙ length-map (written 6 (tree_of e)) sign

    spellable : (i : ℕ) → i < count → Spellable names (get_or list i 0)
    unfolding signs tree_at
    spellable i l =
        rw (sym (get_or-take count list i 0 l) ∙ ap (λ (x : List ℕ). get_or x i 0) k.front)
        (signs_spellable (names_few names h.passed) tokens i (omega (arith, k.size)))

    short : length (text_at names tree) ≤ 33792
    unfolding text_at text
    short = omega (arith, text_short tokens, few)

    pub lined : Linable names list count
    lined = record { there = omega (arith, counted, few); signs = spellable; short = rw line_is short }

    -- the text is made
    pub wrote :
        {buffer out out' : List ℕ} {size : ℕ} {r : Outcome} →
        Holds buffer size (line_from names 0 (take count list)) →
        Delivers (take size buffer) out out' r →
        Writes names tree sort out out' r
    wrote {out = out} {r = r} m d =
        let g = rw (m.front ∙ line_is) at d in
        record { outcome = comes_end names tree sort (length out) h a r g.outcome; memory = g.memory }
