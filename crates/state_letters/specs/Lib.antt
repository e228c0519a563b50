-- The letters of the states.
pub mod Letters
