-- The laws of the activity listing.
pub mod WholeText
pub mod Examples
pub mod Theorems
pub mod Parts
pub mod Longest
