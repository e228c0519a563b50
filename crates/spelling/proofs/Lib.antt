-- What is spelled reads as it was meant, and what the functions that spell are proved by.
--   LongestSigns, LongestWords, Reading   a spelled token is the longest there, so a text reads as its tokens
--   Lines                                 the line of some tokens' signs is their text, and is short
--   Tables, Steps                         the tables and the spelling's cases; word by word
pub mod LongestSigns
pub mod LongestWords
pub mod Reading
pub mod Tables
pub mod Steps
pub mod Lines
