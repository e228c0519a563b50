-- The laws of this crate.
pub mod TextPins
pub mod Theorems
