-- The listings of answers and of values. Inner is for the functions inside.
pub mod Listing
pub mod Inner
