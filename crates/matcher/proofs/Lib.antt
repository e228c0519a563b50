-- The laws that the matcher is proved by.
pub mod Matching
pub mod Asked
pub mod Walking
pub mod Filling
pub mod Agreement
pub mod Unique
pub mod Theorems
