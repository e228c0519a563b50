-- The text of a pattern's alternatives. Texts is what must be believed; Inner is for the functions inside.
pub mod Texts
pub mod Inner
