-- The laws that matching by blocks is proved by.
pub mod Columns
pub mod Passes
pub mod Trying
pub mod Preparing
pub mod Suiting
pub mod Readying
