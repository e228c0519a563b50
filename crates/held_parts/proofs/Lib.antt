-- The laws that the functions of this crate are proved by.
pub mod Clearing
pub mod Pinning
