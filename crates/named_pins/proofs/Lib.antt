-- The laws of this crate.
pub mod NamedBytes
pub mod Joined
