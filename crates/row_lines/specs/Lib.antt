-- The lines of the activity listing. Inner is for the functions inside.
pub mod Lines
pub mod Inner
