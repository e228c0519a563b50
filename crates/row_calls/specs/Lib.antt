-- The definitions of this crate.
pub mod Written
pub mod Windows
