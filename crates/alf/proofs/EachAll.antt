-- What holds of what is made of each alternative of one list with each of another holds of all of `each`: all_each.
use mathlib.Core.List.{List}
use Rattle.basics.proofs.AllEntries.{All, none, more, all_append, all_map}
use Rattle.alf.specs.Alternatives.{Alternative, each}

pub all_each : {P Q R : Alternative → Type 0} {xs ys : List Alternative}
    (f : Alternative → Alternative → Alternative)
    → ((x y : Alternative) → P x → Q y → R (f x y)) → All P xs → All Q ys → All R (each f xs ys)
unfolding each
all_each f h none t = none
all_each f h (more {x = x} k s) t = all_append (all_map (f x) (λ y. h x y k) t) (all_each f h s t)
