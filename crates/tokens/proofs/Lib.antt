-- The laws of a text's tokens; Theorems names what this crate and `token_steps` stand for.
pub mod TextLaws
pub mod ShownBytes
pub mod Filling
pub mod Scanning
pub mod Counts
pub mod Places
pub mod ReadingLaws
pub mod Handing
pub mod Theorems
