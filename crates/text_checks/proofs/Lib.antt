-- The laws of the checks.
pub mod StateWords
pub mod TimeWords
