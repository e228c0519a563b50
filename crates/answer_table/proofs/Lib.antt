-- The laws that the functions of this crate are proved by.
pub mod Cells
pub mod Stored
pub mod Shifts
pub mod Kept
pub mod Joining
