-- The laws of the call.
pub mod Rows
pub mod Returns
pub mod Unique
