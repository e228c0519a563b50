-- The laws of letters and of row numbers.
pub mod LetterCodes
pub mod LetterCorrections
pub mod Decimals
pub mod LetterExamples
