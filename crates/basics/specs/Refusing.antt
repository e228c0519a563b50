-- A refusal, as a contract names it.
--   refusal_over_lem  the number of refused work, its place, and how many bytes from the place on are refused
--   refusal      without bytes: every refusal but those of a text's tokens
use Rattle.std.specs.Prelude.{Result}
use Rattle.std.specs.Prelude.{ℕ}
use Rattle.basics.specs.declared.Refusal.{Refusal}

-- what a call comes to: done, with a count of what it made, or refused
abbrev pub Outcome : Type 0
Outcome = Result ℕ Refusal

abbrev pub refusal_over_lem : ℕ → ℕ → ℕ → Refusal
refusal_over_lem n p k = record { number = n; place = p; extent = k }

abbrev pub refusal : ℕ → ℕ → Refusal
refusal n p = refusal_over_lem n p 0
