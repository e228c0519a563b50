-- What the library for C tells.
pub mod Handing
pub mod Matching
pub mod Listed
