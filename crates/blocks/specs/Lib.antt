-- What matching by blocks asks and promises.
pub mod Numbering
pub mod Meeting
pub mod Rows
