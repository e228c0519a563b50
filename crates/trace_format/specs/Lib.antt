-- The definitions of this crate.
pub mod Format
pub mod Records
pub mod Parts
