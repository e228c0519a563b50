-- The laws that the functions over a tree are proved by.
pub mod Places
pub mod Tops
pub mod Vectors
pub mod FilledParts
pub mod LongWindows
pub mod PinnedLengths
pub mod FromTables
pub mod FoundAnswers
pub mod RowAnswers
pub mod Longest
pub mod LongestSteps
