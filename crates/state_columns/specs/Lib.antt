-- What columns of states ask and promise.
pub mod Entries
pub mod Spelt
