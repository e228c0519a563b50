-- The filled expression as code computes it; regrouped chains, expressions with nothing to fill; table T and examples.
pub mod Beside
pub mod Regrouped
pub mod Lone
pub mod SteadyT
pub mod Examples
