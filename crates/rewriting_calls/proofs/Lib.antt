-- The laws of the call, and the statements that rewriting stands for.
pub mod Calls
pub mod Theorems
