-- The listing with where each match began.
pub mod BeganListing
