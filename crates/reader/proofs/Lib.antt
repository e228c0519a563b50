-- The laws of this crate, in files named after what they are about.
pub mod Trees
pub mod Texts
pub mod Faults
pub mod ShownTokens
pub mod Unknowns
pub mod Readings
pub mod TokenedTexts
pub mod Limits
pub mod Limiting
pub mod Unique
pub mod Filled
pub mod Openings
