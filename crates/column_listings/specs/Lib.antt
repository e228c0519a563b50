-- Whole listings: what the calls promise. Inner is for the functions inside.
pub mod Calls
pub mod Inner
