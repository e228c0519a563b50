-- The laws of words and lines, byte by byte; and what is so of a name and of a row that pass (PassedParts).
pub mod Splitting
pub mod Steps
pub mod Found
pub mod Behind
pub mod WordOf
pub mod Examples
pub mod PassedParts
pub mod OnAndOn
pub mod Each
pub mod Parts
