-- The laws of corrections for trees.
pub mod ByAlternatives
pub mod Corrects
