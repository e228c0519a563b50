-- Any two results that the contract of a push allows coincide: pushes_unique.
use Prim.Native.Nat.{ℕ}
use mathlib.Core.Path.{◌≡◌, sym, ◌∙◌}
use mathlib.Core.List.{List}
use Rattle.alf.specs.declared.Rules.{Rules}
use Rattle.alf.specs.declared.Answer.{Answer}
use Rattle.alf.specs.Beginnings.{Began}
use Rattle.alf.specs.Alternatives.{Alternative}
use Rattle.queue.proofs.Unique as rows
use Rattle.timed_queue.specs.declared.queues.Queue.{Queue}
use Rattle.timed_queue.specs.TimedQueues.{Pushes}

pub pushes_unique : {ρ : Rules} {names : ℕ} {xs : List Alternative} {q : Queue} {t : ℕ} {row : List ℕ} {a b : Answer}
    {m n : ℕ} {s r : Began} {q' q'' : Queue}
    → Pushes ρ names xs q t row a m s q' → Pushes ρ names xs q t row b n r q''
    → (a ≡ b) × (m ≡ n) × (s ≡ r) × (q' ≡ q'')
pushes_unique p k =
    let u = rows.pushes_unique p.pushed k.pushed in
    let e = p.times ∙ sym k.times in
    (u.0, u.1, p.since ∙ sym k.since, λ i. record { rows = u.2 i; times = e i })
