-- Document 01, "Text", as far as one token goes: what is a token, which one is taken, and how it is found.
pub mod Classes
pub mod Spelling
pub mod Taking
pub mod Steps
pub mod Inner
