-- The laws of this crate.
pub mod EqualBranches
pub mod EventReport
pub mod Sharper
pub mod SharperTries
