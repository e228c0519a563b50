-- What the theorems over the library for C speak of.
pub mod Reliable
