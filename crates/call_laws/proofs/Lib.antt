-- The laws of this crate.
pub mod Unique
pub mod Theorems
pub mod Passing
pub mod Routes
pub mod ThreeRoutes
