-- The listing of a pattern's alternatives. Calls says what comes of a tree, AlternativesText what comes of a text;
-- Inner is for the functions inside.
pub mod Calls
pub mod Inner
pub mod AlternativesText
