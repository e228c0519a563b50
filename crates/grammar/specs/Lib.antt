-- The grammar of document 01, and what the parser promises. What must be believed: Tokens and Grammar, then Answers,
-- the contract of `parse`, and Written, a tree's text. Stops and Views are for the parser's functions.
pub mod Tokens
pub mod Grammar
pub mod Answers
pub mod Stops
pub mod Views
pub mod Written
