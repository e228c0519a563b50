-- The laws of the lines of the table.
pub mod ColumnParts
pub mod LineEnds
pub mod TableExamples
