-- The laws that the functions over trees are proved by.
pub mod Starts
pub mod Operands
pub mod MadeSorts
pub mod Endings
pub mod Trees
pub mod Vectors
pub mod Levels
pub mod Depths
