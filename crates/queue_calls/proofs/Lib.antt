-- The laws of pushes for trees.
pub mod ByAlternatives
pub mod QueuesKept
pub mod Pushes
