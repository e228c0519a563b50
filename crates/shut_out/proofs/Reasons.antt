-- The law of all calls: a contract that tells a refusal by its order, and allows one result, refuses exactly when the
-- table says.
--   Kept                    what is asked of a contract
--   exactly, exactly_in     what follows, for a call whose refusals show no bytes and for one that reads a text
--   narrowed                what is said of a contract is so of one that allows no more
--   comes_parts             of a call whose result is an `Outcome`
--   ComesIn, comes_in_parts     of one that reads a text
use Rattle.std.specs.Prelude.{Err, Ok}
use Prim.Native.Nat.{ℕ}
use mathlib.Core.Path.{◌≡◌, refl}
use mathlib.Core.Logic.{◌⊎◌, inl, inr}
use mathlib.Core.List.{List, [], ◌∷◌}
use Rattle.basics.specs.declared.Refusal.{Refusal}
use Rattle.basics.specs.Refusing.{Outcome}
use Rattle.alf.specs.Refusals.{Order, RefusedWith, RefusedBy, Passed, Comes}
use Rattle.alf.proofs.Outcomes.{refused_passed}
use Rattle.demands.specs.Promises.{One}
use Rattle.tokens.specs.Extents.{RefusedIn}
use Rattle.shut_out.specs.Reasons.{Held, IsRefusal, ExactlyBy, Exactly, ExactlyIn}

pub passed_held : (o : Order) → Passed o → Held o → ⊥
unfolding Passed Held
passed_held [] a h = h
passed_held (c ∷ cs) a (inl h) = a.0 h.0 h.1
passed_held (c ∷ cs) a (inr h) = passed_held cs a.1 h

pub record Kept {R M : Type 0} (By : Refusal → Type 0) (order : Order) (refused : Refusal → R)
    (allows : R → M → Type 0) (before : M)
    : Type 0 where
  pub reason : (r : Refusal) (m : M) → allows (refused r) m → By r
  pub parts : (x : R) (m : M) → allows x m → Passed order ⊎ IsRefusal refused x
  pub refuses : (r : Refusal) → By r → allows (refused r) before
  pub one : (a b : R) (m n : M) → allows a m → allows b n → (a ≡ b) × (m ≡ n)

module _ {R M : Type 0} {order : Order} {refused : Refusal → R} {allows : R → M → Type 0} {before : M} where
  by_order : {By : Refusal → Type 0} {good : Type 0} → ((r : Refusal) → By r → RefusedWith order r.number r.place)
      → (good → Passed order) → Kept By order refused allows before → ExactlyBy By good order refused allows before
  by_order by pass k =
      record {
        no_refusal = λ g r m w. refused_passed order _ _ (pass g) (by r (k.reason r m w));
        no_acceptance = λ h x m w. go h x (k.parts x m w);
        no_other = λ r h x m w. k.one x (refused r) m before w (k.refuses r h);
      }
    where
      go : Held order → (x : R) → Passed order ⊎ IsRefusal refused x → IsRefusal refused x
      go h x (inl a) = absurd (passed_held order a h)
      go h x (inr r) = r

  pub exactly : {good : Type 0} → (good → Passed order) → Kept (RefusedBy order) order refused allows before
      → Exactly good order refused allows before
  exactly = by_order (λ r h. h.by)

  pub exactly_in : (text : List ℕ) {good : Type 0} → (good → Passed order)
      → Kept (RefusedIn text order) order refused allows before
      → ExactlyIn text good order refused allows before
  exactly_in text = by_order (λ r h. h.by)

  pub narrowed : {By : Refusal → Type 0} {good : Type 0} {inner : R → M → Type 0}
      → ExactlyBy By good order refused allows before
      → ((x : R) (m : M) → inner x m → allows x m) → ExactlyBy By good order refused inner before
  narrowed e f =
      record {
        no_refusal = λ g r m w. e.no_refusal g r m (f (refused r) m w);
        no_acceptance = λ h x m w. e.no_acceptance h x m (f x m w);
        no_other = λ r h x m w. e.no_other r h x m (f x m w);
      }

pub comes_parts : (o : Order) (made : ℕ → Type 0) (x : Outcome) → Comes o made x → Passed o ⊎ IsRefusal Err x
unfolding Comes
comes_parts o made (Ok k) w = inl w.0
comes_parts o made (Err r) w = inr (r, refl)

-- a call that reads a text
unfoldable pub ComesIn : List ℕ → Order → Outcome → Type 0
ComesIn text o (Ok k) = Passed o
ComesIn text o (Err r) = RefusedIn text o r

pub comes_in_parts : (text : List ℕ) (o : Order) (x : Outcome) → ComesIn text o x → Passed o ⊎ IsRefusal Err x
unfolding ComesIn
comes_in_parts text o (Ok k) w = inl w
comes_in_parts text o (Err r) w = inr (r, refl)

-- what a call is lent to write to: nothing, or some lists; of one that is lent nothing there is one result
abbrev pub None : Type 0
None = Unit {0}

abbrev pub Two : Type 0
Two = List ℕ × List ℕ

abbrev pub Three : Type 0
Three = List ℕ × List ℕ × List ℕ

abbrev pub Four : Type 0
Four = List ℕ × List ℕ × List ℕ × List ℕ

pub both : {R : Type 0} {allows : R → Type 0} → One allows
    → (a b : R) (m n : None) → allows a → allows b → (a ≡ b) × (m ≡ n)
both o a b m n x y = (o a b x y, refl)
