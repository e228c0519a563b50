-- The laws of the calls over rows.
pub mod Verdicts
pub mod InTurn
pub mod Checked
pub mod TimedChecks
