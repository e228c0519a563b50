-- What the calls come to that write a text for a pattern's tree.
pub mod TreeTexts
