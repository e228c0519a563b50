-- The definitions of this crate.
pub mod Possible
pub mod Calls
