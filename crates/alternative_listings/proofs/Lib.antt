-- The laws of the listing of alternatives: from a tree, and from a text.
pub mod WritingCases
pub mod Theorems
pub mod AlternativesLaws
