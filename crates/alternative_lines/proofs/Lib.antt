-- The laws of the lines of alternatives.
pub mod LineParts
pub mod Examples
