-- The alternatives of a pattern as lines of text. Listing is what must be believed, with alternative_texts' Texts;
-- Inner is for the functions inside.
pub mod Listing
pub mod Inner
