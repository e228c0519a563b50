-- What the calls come to that go from a text to what is asked of it.
pub mod Counting
pub mod Lines
pub mod Sums
