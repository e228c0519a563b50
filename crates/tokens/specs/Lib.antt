-- Document 01, "Text", as far as tokens go: the tokens of a text, and its refusals 1 to 4.
pub mod Texts
pub mod Extents
pub mod Tokenizing
pub mod Inner
