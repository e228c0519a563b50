-- A tree: an expression as its bytes (alf/specs/Bytes). What the functions over trees promise.
pub mod Parts
pub mod Sorts
pub mod Brackets
