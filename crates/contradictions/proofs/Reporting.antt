-- What the report of contradictory alternatives comes to, return by return, and that it follows from the input.
-- Main names: reported, flagged_own; short_flags, flags_delivered; report_18, report_10, report_on;
-- contradicts_unique, contradicts_flag.
use Rattle.std.specs.Prelude.{Err, Ok}
use Prim.Native.Nat.{ℕ, ◌<◌, ◌≤◌}
use native.Mathlib.Omega.{arith}
use mathlib.Core.Path.{◌≡◌, refl, ap, sym, ◌∙◌}
use mathlib.Core.Logic.{inl}
use mathlib.Core.List.{List, []}
use lib.ListN.{length, get_or, length-take, length-map, get_or-append}
use Rattle.basics.specs.Refusing.{refusal}
use Rattle.basics.specs.Refusing.{Outcome}
use Rattle.alf.specs.declared.Rules.{Rules}
use Rattle.alf.specs.declared.Sort.TheVariants.{Vector}
use Rattle.alf.specs.Alternatives.{Alternative, contradictory}
use Rattle.alf.specs.Refusals.{Order, NameCount, RefusedWith, Passed, Comes}
use Rattle.alf.proofs.Outcomes.{AllFixed, at_fixed, comes_unique}
use Rattle.acceptance.specs.Accepted.{Accepted}
use Rattle.basics.proofs.Entries.{get_d_map}
use Rattle.alternatives.specs.declared.lists.Lists.{Lists}
use Rattle.alternatives.specs.Listed.{alternatives_listed}
use Rattle.rewriting.specs.declared.lists.Alternatives.{Alternatives}
use Rattle.rewriting.specs.Lists.{Holds, Lends, StandFor}
use Rattle.contradictions.specs.Possible.{flag_of, flag_list, ReportedOn, Flagged}
use Rattle.rewriting_calls.specs.Calls.{tree_order}
use Rattle.basics.specs.Memory.{after}
use Rattle.contradictions.specs.Calls.{own_at, flag_order, Reports, Contradicts}
use Rattle.rewriting.proofs.Holding.{holds_number}
use Rattle.rewriting_calls.proofs.Calls.{comes_18, comes_10, comes_on}
use Rattle.basics.proofs.Memory.{after_unique}

pub flag_entries : (names : ℕ) (xs : List Alternative) → length (flag_list names xs) ≡ length xs
unfolding flag_list
flag_entries names xs = length-map xs _

-- the lists in use, and their flags
module _ {ρ : Rules} {names : ℕ} {tree : List ℕ} {ls : Lists} (h : StandFor ρ tree names ls) where
  pub reported : {a : Alternatives} {flags : List ℕ} → Lends a ls → names ≤ 32 → a.count ≤ length flags
      → ReportedOn tree names ls flags
  reported {a} e few room =
      record {
        shape = h.shape;
        few = few;
        room = omega (arith, room, ap length e.steps_are, length-take a.count a.steps);
      }

  pub flagged_own : {flags flags' : List ℕ} → Flagged names (alternatives_listed tree names ls) flags flags'
      → Flagged names (own_at ρ tree names) flags flags'
  flagged_own f = rw h.stands at f

module _ {ρ : Rules} {names : ℕ} {tree : List ℕ} {a : Alternatives} (h : Holds ρ tree names a) where
  count_own : a.count ≡ length (own_at ρ tree names)
  count_own = holds_number h

  count_needed : a.count ≡ length (flag_list names (own_at ρ tree names))
  count_needed = count_own ∙ sym (flag_entries names (own_at ρ tree names))

  pub short_flags : {flags : List ℕ} {r : Outcome} → length flags < a.count
      → r ≡ Err (refusal 9 a.count) → Reports ρ names tree flags flags r
  unfolding Comes RefusedWith flag_order after
  short_flags l e =
      let f = count_needed in
      rw e
      (record {
        outcome = record { by = inl (refl, record { given = omega arith; there = f }); bare = refl };
        memory = refl;
      })

  pub flags_delivered : {flags flags' : List ℕ} → a.count ≤ length flags
      → Flagged names (own_at ρ tree names) flags flags' → Reports ρ names tree flags flags' (Ok a.count)
  unfolding Comes Passed flag_order after
  flags_delivered l f =
      let g = count_needed in
      record { outcome = (((λ p r. omega (arith, r.given)), tt), count_own); memory = f.flags_are }

module _ (ρ : Rules) (names : ℕ) (tree flags : List ℕ) where
  pub report_18 : {r : Outcome} → (NameCount names → ⊥) → r ≡ Err (refusal 18 0)
      → Contradicts ρ names tree flags flags r
  unfolding after
  report_18 f e = rw e (record { outcome = comes_18 ρ names tree _ _ f; memory = refl })

  pub report_10 : {r : Outcome} → NameCount names → (Accepted ρ names Vector tree → ⊥)
      → r ≡ Err (refusal 10 0) → Contradicts ρ names tree flags flags r
  unfolding after
  report_10 n f e = rw e (record { outcome = comes_10 ρ names tree _ _ n f; memory = refl })

  pub report_on : {flags' : List ℕ} {r : Outcome} → NameCount names → Accepted ρ names Vector tree
      → Reports ρ names tree flags flags' r → Contradicts ρ names tree flags flags' r
  report_on {r = r} n a d =
      record { outcome = comes_on ρ names tree _ _ n a r d.outcome; memory = d.memory }

  abbrev order : Order
  order = tree_order ρ names tree (flag_order names (own_at ρ tree names) flags)

  order_fixed : AllFixed order
  unfolding tree_order flag_order
  order_fixed = (at_fixed _ _, (at_fixed _ _, (at_fixed _ _, tt)))

  pub contradicts_unique : {flags₁ flags₂ : List ℕ} {r q : Outcome} → Contradicts ρ names tree flags flags₁ r
      → Contradicts ρ names tree flags flags₂ q → (r ≡ q) × (flags₁ ≡ flags₂)
  contradicts_unique {r = r} {q = q} a b =
      let e : r ≡ q = comes_unique order _ order_fixed (λ j k x y. x ∙ sym y) r q a.outcome b.outcome in
      (e, after_unique _ flags e a.memory b.memory)

  -- entry t is 1 exactly where alternative t is contradictory, else 0
  pub contradicts_flag : {flags' : List ℕ} {k : ℕ} → Contradicts ρ names tree flags flags' (Ok k)
      → (t : ℕ)
      → t < length (own_at ρ tree names)
      → get_or flags' t 0 ≡ flag_of (contradictory names (get_or (own_at ρ tree names) t []))
  unfolding after flag_list
  contradicts_flag c t l =
      ap (λ (f : List ℕ). get_or f t 0) c.memory
      ∙ get_or-append (flag_list names (own_at ρ tree names)) _ 0 t
      (omega (arith, flag_entries names (own_at ρ tree names)))
      ∙ get_d_map (λ x. flag_of (contradictory names x)) (own_at ρ tree names) t [] 0 l
