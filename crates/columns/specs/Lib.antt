-- What columns ask and promise.
pub mod Passes
pub mod Columns
