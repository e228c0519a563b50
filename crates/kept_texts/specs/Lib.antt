-- What keeping the pins of a text comes to.
pub mod Keeping
