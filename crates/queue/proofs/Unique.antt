-- Any two results that the contract of a push allows coincide: pushes_unique.
use mathlib.Core.Path.{◌≡◌, sym, ◌∙◌}
use mathlib.Core.List.{List}
use Prim.Native.Nat.{ℕ}
use Rattle.alf.specs.declared.Rules.{Rules}
use Rattle.alf.specs.declared.Answer.{Answer}
use Rattle.alf.specs.Alternatives.{Alternative}
use Rattle.matcher.proofs.Unique.{matches_unique}
use Rattle.queue.specs.declared.queues.Queue.{Queue}
use Rattle.queue.specs.Queues.{Pushes}

pub pushes_unique : {ρ : Rules} {names : ℕ} {xs : List Alternative} {q : Queue} {row : List ℕ} {a b : Answer} {t u : ℕ}
    {q' q'' : Queue}
    → Pushes ρ names xs q row a t q' → Pushes ρ names xs q row b u q''
    → (a ≡ b) × (t ≡ u) × (q' ≡ q'')
pushes_unique p k =
    let m = matches_unique p.matched k.matched in
    let n = p.kept ∙ sym k.kept in
    let s = p.states ∙ sym k.states in
    (m.0, m.1, λ i. record { kept = record { 0 = n i }; states = s i })
