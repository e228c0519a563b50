-- The definitions of this crate.
pub mod Picks
pub mod InMemory
pub mod Listed
