-- Document 02, [2]: the laws of the filled expression that the project stands for, by name: none can go missing.

-- an expression so filled stays as it is when filled again
pub use Rattle.steady_laws.proofs.Twice.{filled_twice}
-- K, the steps of the longest alternative, stays
pub use Rattle.steady_laws.proofs.SteadyLimits.{filled_steps}
-- the number of alternatives stays; what is over limit 8 as written is over it filled
pub use Rattle.steady_laws.proofs.SteadyLimits.{filled_number, filled_limit}
-- the bound of tries stays: the number of alternatives written; no fewer are tried
pub use Rattle.steady_laws.proofs.SteadyAnswers.{filled_tries_bound, filled_tries}
-- the alternatives that are contradictory stay the same
pub use Rattle.steady_laws.proofs.SteadyLimits.{filled_contradictory}
-- an answer is never above the one of the expression as written: on a window, at a row, of each alternative, numbered
pub use Rattle.steady_laws.proofs.SteadyAnswers.{filled_answer, filled_best, filled_alternative}
pub use Rattle.steady_laws.proofs.SteadyAnswers.{filled_no, filled_yes}
-- regrouping or bracketing a chain of `->` changes no filled alternatives: of the expression itself, and of any in it
pub use Rattle.steady_laws.proofs.Chains.{grouped}
pub use Rattle.steady_laws.proofs.Regrouping.{regrouped}
-- an expression with no run of two or more steps is its own filling
pub use Rattle.steady_laws.proofs.LoneSteps.{lone_filled}
-- an expression over n names is over n names when filled
pub use Rattle.steady_laws.proofs.OverNames.{filled_over}
-- with steady pins off an expression is read as it is written, and with them on as the filled one
pub use Rattle.steady_laws.proofs.Meant.{meant_off, meant_on}
-- filling by a mask of names and a bool on either side of each step is filling
pub use Rattle.steady_laws.proofs.Besides.{filled_beside_lem}
-- table T under any rules, and the examples
pub use Rattle.steady_laws.proofs.SteadyCases.{cases_under_lem, cases_plain, cases_steady}
pub use Rattle.steady_laws.proofs.Examples.{fillings_hold, readings_hold, ladder_eight, ladder_nine}
