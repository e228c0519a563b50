-- The listing with where each match began, from a tree and a trace. Inner is for the functions inside.
pub mod BeganTexts
pub mod Inner
