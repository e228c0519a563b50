-- The laws of this crate.
pub mod BadCodes
pub mod CodeLists
