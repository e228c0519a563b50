-- What counting the answers of all rows promises.
pub mod Counting
