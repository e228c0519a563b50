-- Laws of names and of slots, and the check's outcome.
pub mod Names
pub mod Slots
pub mod Outcomes
pub mod Few
pub mod Unique
