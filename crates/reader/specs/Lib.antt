-- What reading an expression means, from the tokens on: the whole call. Names and sorts are in the crate `sorting`.
pub mod Reads
pub mod Texts
pub mod Reading
pub mod Tokened
