-- The laws of the text of a test, and of writing as far as there is room.
pub mod Clipped
pub mod PartBytes
pub mod Telling
pub mod Counting
