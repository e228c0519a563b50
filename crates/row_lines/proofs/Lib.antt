-- The laws of the lines of the activity listing.
pub mod InTurn
pub mod NameSets
pub mod RowParts
