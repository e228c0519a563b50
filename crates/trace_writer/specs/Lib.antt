-- The definitions of this crate.
pub mod Writing
pub mod Putting
