-- The laws of whole listings.
pub mod LastLine
pub mod WholeListings
pub mod ListOrder
pub mod Theorems
