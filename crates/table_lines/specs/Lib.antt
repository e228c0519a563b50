-- The lines of the table.
pub mod Table
