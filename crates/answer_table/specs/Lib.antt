-- The table of answers, and what its functions ask and promise.
pub mod Tables
