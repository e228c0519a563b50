-- The laws of the lines of a listing.
pub mod ColumnWords
pub mod RowByRow
pub mod Examples
