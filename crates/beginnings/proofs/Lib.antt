-- The laws of this crate.
pub mod Marking
pub mod ByTries
pub mod Counts
