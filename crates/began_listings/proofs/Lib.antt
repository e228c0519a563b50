-- The laws of the listing with where each match began: row by row, the whole, what the call comes to, examples.
pub mod RowLines
pub mod WholeText
pub mod BeganTexts
pub mod Theorems
pub mod Examples
