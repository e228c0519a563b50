-- The laws of the listing with where each match began.
pub mod ThirdColumn
pub mod Columns
pub mod RowTexts
