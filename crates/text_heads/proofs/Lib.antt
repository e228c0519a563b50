-- The laws of a head: its names counted (Counting), looked at one after the other (NewNames), and checked (HeadChecks).
pub mod SameWords
pub mod Counting
pub mod NewNames
pub mod HeadChecks
