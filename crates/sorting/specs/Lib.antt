-- The names and the sorts of an expression: Lookup and Sorts are document 01's, Passes is for the functions inside.
pub mod Lookup
pub mod Sorts
pub mod Passes
