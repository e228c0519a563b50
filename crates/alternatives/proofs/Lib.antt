-- The laws of this crate.
pub mod Picks
pub mod Finding
pub mod Cuts
pub mod Longest
pub mod OperandsOver
