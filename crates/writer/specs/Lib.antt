-- Document 01, "Writing out": what the text of an expression is, and what `write_expression` promises.
-- Trees and Writing are what must be believed; Layout is for the functions inside.
pub mod Trees
pub mod Layout
pub mod Writing
