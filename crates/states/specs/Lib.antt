-- The definitions of this crate.
pub mod Comparing
pub mod FirstBadCode
