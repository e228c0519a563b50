-- The laws of numbers and shares as text, and of a text that is delivered.
pub mod Digits
pub mod DigitByDigit
pub mod Rounding
pub mod ShareParts
pub mod ShareExamples
pub mod Delivering
