-- The laws of the acceptance of alternatives handed in.
pub mod Each
pub mod Sums
pub mod Alone
pub mod Acceptance
pub mod Fitting
