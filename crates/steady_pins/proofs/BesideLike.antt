-- What the code knows of the steps beside a part of a chain is what filling needs of them (steady_laws/specs/Beside).
--   Like                     places of operands that are the names of a test, none for the others
--   LikeBeside               the same of what is beside a part, and whether it changes
--   own_like, stepped_like, front_like, back_like
use Rattle.std.specs.Prelude.{if◌then◌else◌}
use Prim.Native.Nat.{ℕ, zero, suc, ◌<◌}
use native.Mathlib.Omega.{arith}
use mathlib.Core.Path.{◌≡◌, refl, ap, sym, ◌∙◌}
use mathlib.Core.Bool.{Bool, true, false, ◌&&◌, ◌||◌, or_assoc}
use mathlib.Core.List.{List}
use mathlib.Core.Logic.{◌⊎◌, inl, inr}
use lib.Dec.{eqb}
use lib.ListN.{length, get_or, set, replicate, length-set}
use lib.Seq.{get_or-set_same, get_or-set_other}
use borrow.Author.Tests.{eq-eqb, ne_eqb}
use Rattle.basics.proofs.Bools.{never, equal?, and_left, and_right}
use Rattle.alf.specs.Expressions.{Boolean, name, literal, negated, binary, choice}
use Rattle.alf.specs.Expressions.{Vector, join}
use Rattle.alf.specs.Alternatives.{is_name}
use Rattle.alf.specs.Steady.{is_then, is_with, is_step_lem, moves, has_edge_on}
use Rattle.steady_laws.specs.Beside as filling
use Rattle.steady_pins.specs.declared.finding.Beside.{Beside}
use Rattle.steady_pins.specs.Finding.{named, own, alone, stepped, front, back}
use Rattle.steady_pins.proofs.Placed.{Placed, on_edge, on_join, behind, ahead}

-- no places
pub zeros : (n k : ℕ) → ◌≡◌ {A = ℕ} (get_or (replicate k 0) n 0) 0
zeros n zero = refl
zeros zero (suc k) = refl
zeros (suc n) (suc k) = zeros n k

-- `operand` is the boolean expression that a place stands for
module _ (operand : ℕ → Boolean) where
  -- an operand at its place, which is not 0
  abbrev pub Here : ℕ → Boolean → Type 0
  Here i c = (operand i ≡ c) × (0 < i)

  -- one entry: 0 where the test fails, else the place of an operand that is name n
  pub record Entry (n place : ℕ) (q : Bool) : Type 0 where
    pub none : place ≡ 0 → q ≡ false
    pub some : 0 < place → (q ≡ true) × (operand place ≡ name n)

  pub record Like (l : List ℕ) (f : ℕ → Bool) : Type 0 where
    pub long : length l ≡ 32
    pub entry : (n : ℕ) → n < 32 → Entry n (get_or l n 0) (f n)

  like_as : {l : List ℕ} {f g : ℕ → Bool} → Like l f → ((n : ℕ) → f n ≡ g n) → Like l g
  like_as {l} h e =
      record {
        long = h.long;
        entry = λ n u. let a = h.entry n u in record {
          none = λ z. sym (e n) ∙ a.none z;
          some = λ z. (sym (e n) ∙ (a.some z).0, (a.some z).1);
        };
      }

  -- one operand over others
  name_like : {l : List ℕ} {f : ℕ → Bool} {place : ℕ} (k : ℕ) → Here place (name k) → Like l f
      → Like (set l k place) (λ n. is_name n (name k) || f n)
  unfolding is_name
  name_like {l} {f} {place} k h a =
      record { long = length-set l k place ∙ a.long; entry = λ n u. go n u (equal? n k) }
    where
      go : (n : ℕ) → n < 32 → (n ≡ k) ⊎ (n ≡ k → ⊥) → Entry n (get_or (set l k place) n 0) (eqb k n || f n)
      go n u (inl e) =
          let s : get_or (set l k place) n 0 ≡ place = rw e (get_or-set_same l k place 0 (omega (arith, a.long))) in
          let t = eq-eqb k n (sym e) in
          rw (s, t) (record { none = λ z. absurd (omega (arith, h.1)); some = λ z. (refl, h.0 ∙ ap name (sym e)) })
      go n u (inr d) =
          rw (get_or-set_other l k n place 0 d, ne_eqb k n (λ e. d (sym e))) (a.entry n u)

  operand_like : {l : List ℕ} {f : ℕ → Bool} {place : ℕ} (c : Boolean) → Here place c → Like l f
      → Like (named place c l) (λ n. is_name n c || f n)
  unfolding named
  operand_like (name k) h a = name_like k h a
  operand_like (literal s) h a = unfold is_name in a
  operand_like (negated c) h a = unfold is_name in a
  operand_like (binary o b c) h a = unfold is_name in a
  operand_like (choice b c d) h a = unfold is_name in a

  -- the plain names of a step, over others
  pub own_like : {end : ℕ} {p : Vector} {l : List ℕ} {f : ℕ → Bool} → Placed Here end p → is_step_lem p ≡ true → Like l f
      → Like (own end p l) (λ n. has_edge_on n p || f n)
  unfolding own has_edge_on
  own_like (on_edge {c = c} r u) s a = operand_like c r a
  own_like {f = f} (on_join {j = j} {p = p} {q = q} x y u) s a =
      let k = and_right (is_with j) (is_step_lem p && is_step_lem q) (unfold is_step_lem in s) in
      like_as
      (own_like x (and_left (is_step_lem p) (is_step_lem q) k) (own_like y (and_right (is_step_lem p) (is_step_lem q) k) a))
      (λ n. sym (or_assoc (has_edge_on n p) (has_edge_on n q) (f n)))
  own_like (behind x r u) s a = never (unfold is_step_lem in s)
  own_like (ahead x r u) s a = never (unfold is_step_lem in s)

  -- nothing
  pub none_like : Like (replicate 32 0) (λ n. false)
  none_like =
      record {
        long = refl;
        entry = λ n u. rw (zeros n 32) (record { none = λ z. refl; some = λ z. absurd (omega arith) });
      }

  -- what is beside a part
  pub record LikeBeside (b : Beside) (r : filling.Beside) : Type 0 where
    pub places : Like b.places r.names
    pub changing : b.changing ≡ r.changing

  pub alone_like : LikeBeside alone filling.alone
  alone_like = record { places = none_like; changing = refl }

  stepped_like : {end : ℕ} {p : Vector} {b : Beside} {r : filling.Beside} → Placed Here end p → is_step_lem p ≡ true
      → LikeBeside b r → LikeBeside (stepped end p b) (filling.stepped p r)
  stepped_like {p = p} h s a =
      record { places = own_like h s a.places; changing = ap (λ (q : Bool). moves p && q) a.changing }

  choice_like : (u v : Bool) {x y z : Beside} {x' y' z' : filling.Beside} → LikeBeside x x'
      → (v ≡ true → LikeBeside y y') → LikeBeside z z'
      → LikeBeside (if u then x else if v then y else z) (if u then x' else if v then y' else z')
  choice_like true v a b c = a
  choice_like false true a b c = b refl
  choice_like false false a b c = c

  pub front_like : {end : ℕ} {p : Vector} {b : Beside} {r : filling.Beside} → Placed Here end p
      → LikeBeside b r → LikeBeside (front end p b) (filling.front p r)
  unfolding front filling.front
  front_like (on_edge r u) a = stepped_like (on_edge r u) (unfold is_step_lem in refl) a
  front_like (on_join {j = j} {p = p} {q = q} x y u) a =
      choice_like (is_then j) (is_step_lem (join j p q)) (front_like x (front_like y a))
      (λ s. stepped_like (on_join x y u) s a) alone_like
  front_like (behind x r u) a = alone_like
  front_like (ahead x r u) a = alone_like

  pub back_like : {end : ℕ} {p : Vector} {b : Beside} {r : filling.Beside} → Placed Here end p
      → LikeBeside b r → LikeBeside (back end p b) (filling.back p r)
  unfolding back filling.back
  back_like (on_edge r u) a = stepped_like (on_edge r u) (unfold is_step_lem in refl) a
  back_like (on_join {j = j} {p = p} {q = q} x y u) a =
      choice_like (is_then j) (is_step_lem (join j p q)) (back_like y (back_like x a))
      (λ s. stepped_like (on_join x y u) s a) alone_like
  back_like (behind x r u) a = alone_like
  back_like (ahead x r u) a = alone_like
