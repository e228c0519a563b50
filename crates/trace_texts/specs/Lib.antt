-- A trace as a text: its words and lines, and which text is which trace.
pub mod Words
pub mod Texts
pub mod Finding
