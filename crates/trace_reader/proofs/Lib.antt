-- Laws of what the records of a file hold, and of what reading comes to.
pub mod FileChecks
pub mod SpeltRecords
pub mod NameSlots
pub mod HeldRows
pub mod AcceptedTraces
pub mod ReadOutcomes
