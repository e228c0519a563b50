-- The changes of a row as a call.
pub mod Call
