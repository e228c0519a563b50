-- A text that is delivered into a lent buffer.
--   short, delivered    the two returns: 9, or the text at the front
--   delivers_unique     outcome and buffer afterwards follow from the input
use Rattle.std.specs.Prelude.{Err, Ok}
use Prim.Native.Nat.{ℕ, ◌+◌, ◌<◌, ◌≤◌}
use native.Mathlib.Omega.{arith}
use mathlib.Core.Path.{◌≡◌, refl, sym, ap, ◌∙◌}
use mathlib.Core.Logic.{inl}
use mathlib.Core.List.{List, ◌++◌}
use lib.ListN.{length, drop}
use lib.Seq.{sets-eq}
use Rattle.basics.specs.Refusing.{Outcome}
use Rattle.basics.specs.Refusing.{refusal}
use Rattle.basics.specs.Memory.{Put, after}
use Rattle.basics.proofs.Memory.{after_unique}
use Rattle.alf.specs.Refusals.{RefusedWith, Passed, Comes}
use Rattle.alf.proofs.Outcomes.{at_fixed, comes_unique}
use Rattle.figures.specs.Delivering.{line_order, Delivers}

-- a text that is too long for the buffer, and one that is not
pub short : {w out : List ℕ} {k : ℕ} {r : Outcome} → k ≡ length w → length out < k
    → r ≡ Err (refusal 9 k) → Delivers w out out r
unfolding Comes RefusedWith after
short h k e =
    rw e
    (record {
      outcome = record { by = inl (refl, record { given = omega (arith, h, k); there = h }); bare = refl };
      memory = refl;
    })

pub delivered : {w out out' : List ℕ} {k r : ℕ} → k ≡ length w → k ≤ length out → Put out 0 w out' r
    → Delivers w out out' (Ok k)
unfolding Comes Passed after
delivered {w} {out} h k p =
    let e : ◌≡◌ {A = ℕ} (0 + length w) (length w) = omega arith in
    let z : 0 + length w ≤ length out = omega (arith, h, k) in
    record {
      outcome = (((λ p r. omega (arith, r.given, h, k)), tt), h);
      memory = p.bytes ∙ sets-eq w out 0 z ∙ ap (λ (n : ℕ). w ++ drop n out) e;
    }

pub delivers_unique :
    (w out : List ℕ) {x y : List ℕ} {r s : Outcome} →
    Delivers w out x r →
    Delivers w out y s →
    (r ≡ s) × (x ≡ y)
delivers_unique w out {r = r} {s = s} a b =
    let e = comes_unique (line_order w (length out)) _ (at_fixed _ _, tt) (λ j k p q. p ∙ sym q) r s a.outcome
    b.outcome in
    (e, after_unique _ out e a.memory b.memory)
