-- The laws of copying: names and codes (Copying), rows (CopiedRows), how long the lists are (Lengths).
pub mod Copying
pub mod CopiedRows
pub mod Lengths
