-- The definitions of this crate.
pub mod Needless
pub mod Older
