-- The laws of this crate. To read: Theorems.
pub mod Lying
pub mod Operands
pub mod Accepting
pub mod SameCalls
pub mod Theorems
