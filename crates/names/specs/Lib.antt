-- The checks of a list of names.
pub mod Check
