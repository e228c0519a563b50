-- The walk over an expression, from the walks over its parts.
--   ready_later, ready_begun                 what the walk is ready for
--   left_walk, right_walk, part_walk, before_walk, begun_walk     the walk comes to a part
--   then_walked                              two parts of a chain
--   stop_walked                              what is neither a step nor a chain: it ends the run
use Rattle.std.specs.Prelude.{if◌then◌else◌}
use Prim.Native.Nat.{ℕ, ◌-◌, ◌<◌, ◌≤◌}
use native.Mathlib.Omega.{arith}
use mathlib.Core.Path.{◌≡◌, refl, ap, sym, ◌∙◌, subst}
use mathlib.Core.Bool.{Bool, true, false}
use mathlib.Core.List.{List}
use mathlib.Core.Logic.{◌⊎◌, inl, inr}
use lib.ListN.{length, get_or}
use Rattle.basics.proofs.Bools.{never, equal?}
use Rattle.alf.specs.Expressions.{Vector, edge, join, while, on_right, on_left}
use Rattle.alf.specs.Steady.{is_then, is_step_lem}
use Rattle.alf.specs.Decoder.{join_at, top_boolean, under, stack_at}
use Rattle.trees.specs.Parts.{EndsVector, vector_at, boolean_at, Start}
use Rattle.trees.proofs.Vectors.{Joined, Conditioned, before_is, condition_is}
use Rattle.steady_pins.specs.declared.finding.Beside.{Beside}
use Rattle.steady_pins.specs.declared.finding.Run.{Run}
use Rattle.steady_pins.specs.Finding.{Tree, alone, stepped, front, back, marked}
use Rattle.steady_pins.specs.Walking.{Followed, begun, Ready, Walk, Walked, Apart}
use Rattle.steady_pins.proofs.Starting.{vector_start, boolean_start}
use Rattle.steady_pins.proofs.Placed.{size, join_size, right_size, left_size}
use Rattle.steady_pins.proofs.BesideParts.{is_chain, stop_front, stop_back, then_front, then_back, then_marked}
use Rattle.steady_pins.proofs.BesideParts.{Two, other_two, left_tree, before_tree}
use Rattle.steady_pins.proofs.OwnPlaces.{own_length}
use Rattle.steady_pins.proofs.SettledRows.{settled_none, settled_alone}

-- further on, and with no run
pub ready_later : {at at' : ℕ} {run : Run} {rows l : List ℕ} → at ≤ at' → Ready at run rows l → Ready at' run rows l
ready_later u r =
    record {
      wide = r.wide;
      room = r.room;
      long = r.long;
      few = omega (arith, r.few);
      earlier = λ k v. let e = r.earlier k v in omega arith;
      blank = λ i v. r.blank i (omega arith);
    }

pub ready_begun : {at : ℕ} {run : Run} {rows l : List ℕ} → Ready at run rows l → Ready at begun rows l
ready_begun r =
    record {
      wide = refl;
      room = r.room;
      long = r.long;
      few = omega arith;
      earlier = λ k v. absurd (omega arith);
      blank = r.blank;
    }

-- the walk comes to a part
module _ {t : List ℕ} {names end m : ℕ} {run : Run} {rows l : List ℕ} (h : Walk t names end run rows l)
    (s : Start t names (end - 1) m) where
  pub left_walk : Two t names end m → Walk t names m run rows l
  left_walk j = record { is = j.left; ready = ready_later later h.ready }
    where
      later : end - size (vector_at t names end) ≤ m - size (vector_at t names m)
      later =
          let e = ap size j.joined.is in
          let v = vector_start t names (end - 1) j.right.ends s in
          omega (arith, join_size (join_at (get_or t (end - 1) 0 - 50)) (vector_at t names m) (vector_at t names (end - 1)))

  pub right_walk : {k : Run} {rows' l' : List ℕ} → Two t names end m → Ready m k rows' l'
      → Walk t names (end - 1) k rows' l'
  right_walk j r =
      record {
        is = j.right;
        ready = rw (vector_start t names (end - 1) j.right.ends s) r;
      }

  condition_walk : Tree t names m → Conditioned t names end m → Walk t names m run rows l
  condition_walk i c = record { is = i; ready = ready_later later h.ready }
    where
      later : end - size (vector_at t names end) ≤ m - size (vector_at t names m)
      later =
          let e = ap size c.is in
          let v = boolean_start t names (end - 1) c.right s in
          omega (arith, right_size (vector_at t names m) (boolean_at t names (end - 1)))

  -- the operand before the last one
  pub part_walk : get_or t (end - 1) 0 < 64 → (get_or t (end - 1) 0 ≡ 57 → ⊥) → Walk t names m run rows l
  part_walk k g = go (equal? (get_or t (end - 1) 0) 56)
    where
      go : (get_or t (end - 1) 0 ≡ 56) ⊎ (get_or t (end - 1) 0 ≡ 56 → ⊥) → Walk t names m run rows l
      go (inl e) = condition_walk (left_tree h.is s k g) (condition_is t names end h.is.ends s e)
      go (inr f) = left_walk (other_two h.is s k f g)

pub before_walk : {t : List ℕ} {names end : ℕ} {run : Run} {rows l : List ℕ} → Walk t names end run rows l
    → get_or t (end - 1) 0 ≡ 57 → Walk t names (end - 1) run rows l
before_walk {t} {names} {end} h e =
    let d = ap size (before_is t names end h.is.ends e) in
    record {
      is = before_tree h.is e;
      ready = ready_later
          (omega (arith, left_size (vector_at t names (end - 1)) (top_boolean (under (stack_at t names (end - 1))))))
          h.ready;
    }

pub begun_walk : {t : List ℕ} {names end : ℕ} {none : Run} {rows l : List ℕ} → none ≡ begun
    → Walk t names end begun rows l → Walk t names end none rows l
begun_walk {t} {names} {end} {rows = rows} {l = l} z h = subst (λ (x : Run). Walk t names end x rows l) (sym z) h

-- what an expression's operands begin with is as wide as what comes after it
front_wide : (end : ℕ) (p : Vector) (r : Beside) → length r.places ≡ 32 → length (front end p r).places ≡ 32
unfolding front
front_wide end (edge e c) r h = own_length end (edge e c) r.places ∙ h
front_wide end (join j p q) r h = go (is_then j) (is_step_lem (join j p q)) _
    (front_wide (end - 1 - size q) p (front (end - 1) q r) (front_wide (end - 1) q r h))
  where
    go : (u v : Bool) (x : Beside) → length x.places ≡ 32
        → length (if u then x else if v then stepped end (join j p q) r else alone).places ≡ 32
    go true v x a = a
    go false true x a = own_length end (join j p q) r.places ∙ h
    go false false x a = refl
front_wide end (while s p c) r h = refl

-- two parts of a chain
pub then_walked : (t : List ℕ) (names end : ℕ) (h : EndsVector t names end) {m : ℕ} (s : Start t names (end - 1) m)
    (j : Joined t names end m) {run k r : Run} {rows rows₁ rows₂ l l₁ l₂ : List ℕ} → get_or t (end - 1) 0 ≡ 50
    → Walked m (vector_at t names m) run rows l k rows₁ l₁
    → Walked (end - 1) (vector_at t names (end - 1)) k rows₁ l₁ r rows₂ l₂
    → Walked end (vector_at t names end) run rows l r rows₂ l₂
then_walked t names end h {m} s j {run} {k} {r} {rows} {rows₁} {rows₂} {l} {l₁} {l₂} e a b =
    record {
      last = b.last ∙ ap (back (end - 1) q) a.last ∙ sym (then_back t names end h s j B e);
      ready = ready_later (omega arith) b.ready;
      pins = λ after x v g. subst (Followed r.beside after rows₂ r.many l₂)
          (ap (λ (y : Beside). marked (end - 1) q y after (marked m p B (front (end - 1) q after) x)) a.last
          ∙ sym (then_marked t names end h s j B after x e))
          (b.pins after _ v (a.pins (front (end - 1) q after) x (front_wide (end - 1) q after v)
          (subst (λ (y : Beside). Followed B y rows run.many l x) (then_front t names end h s j after e) g)));
    }
  where
    B : Beside
    B = run.beside

    p : Vector
    p = vector_at t names m

    q : Vector
    q = vector_at t names (end - 1)

-- what is neither a step nor a chain ends the run
stop_marked : (end : ℕ) (p : Vector) (before after : Beside) (l : List ℕ) → is_chain p ≡ false → is_step_lem p ≡ false
    → marked end p before after l ≡ marked end p alone alone l
unfolding marked is_chain
stop_marked end (edge e c) before after l n h = never (sym (unfold is_step_lem in h))
stop_marked end (join j p q) before after l n h = rw (n, h) refl
stop_marked end (while on_right p c) before after l n h = refl
stop_marked end (while on_left p c) before after l n h = refl

pub stop_walked : {end : ℕ} {p : Vector} {run none : Run} {rows rows' l l' : List ℕ} → length l ≡ 8192
    → is_chain p ≡ false → is_step_lem p ≡ false → none ≡ begun → Apart end p l rows' l'
    → Walked end p run rows l none rows' l'
stop_walked {end} {p} {run} {none} {rows} {rows'} {l} {l'} w n u z a =
    subst (λ (x : Run). Walked end p run rows l x rows' l') (sym z) (record {
      last = sym (stop_back end run.beside p n u);
      ready = a.ready;
      pins = λ after m v g. subst (Followed alone after rows' 0 l')
          (a.pins
          ∙ ap (marked end p alone alone) (sym (settled_alone w
          (subst (λ (y : Beside). Followed run.beside y rows run.many l m) (stop_front end after p n u) g)))
          ∙ sym (stop_marked end p run.beside after m n u))
          settled_none;
    })
