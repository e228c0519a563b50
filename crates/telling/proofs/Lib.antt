-- The laws of handing on.
pub mod Handed
pub mod Unique
