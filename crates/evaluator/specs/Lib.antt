-- What the functions that evaluate a boolean expression as it is written ask and promise.
pub mod Rows
