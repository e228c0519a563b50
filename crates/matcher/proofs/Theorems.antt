-- What the matcher's contracts come to, by name, so that none can go missing.

-- a row's answer, and the totals, are those of the expression on windows; yes, no and unknown together are n-1
pub use Rattle.matcher.proofs.Agreement.{matches_windows, totals_windows, totals_together}
-- two results that a contract allows coincide
pub use Rattle.matcher.proofs.Unique.{matches_unique, filled_unique, totals_unique}
-- of a list that is written anew: what is written, and what stays
pub use Rattle.basics.proofs.Listed.{ruled_inside, ruled_before, ruled_behind}
-- refusal 15 of a list of states
pub use Rattle.states.proofs.BadCodes.{bad_given, bad_never}
