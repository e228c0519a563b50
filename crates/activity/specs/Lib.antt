-- The activity listing, and what the call promises. Inner is for the functions inside.
pub mod Activity
pub mod Inner
