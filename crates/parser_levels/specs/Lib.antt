-- The levels of the parser: what their functions tell.
pub mod Inner
