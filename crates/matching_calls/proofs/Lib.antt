-- The laws of this crate.
pub mod ByAlternatives
pub mod Matches
