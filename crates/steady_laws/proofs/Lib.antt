-- The laws of this crate.
pub mod Chains
pub mod Rows
pub mod Filling
pub mod Besides
pub mod SteadyPins
pub mod SteadyLimits
pub mod SteadyAnswers
pub mod Twice
pub mod LoneSteps
pub mod Regrouping
pub mod OverNames
pub mod Meant
pub mod SteadyCases
pub mod Examples
pub mod SteadyTheorems
