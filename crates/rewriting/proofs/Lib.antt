-- The laws that the alternatives are written by, and what the lists stand for.
pub mod Joining
pub mod Asking
pub mod Meaning
pub mod Bounds
pub mod Filling
pub mod Turns
pub mod Holding
