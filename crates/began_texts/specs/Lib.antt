-- What the listing of a text with where each match began, on a trace, comes to.
pub mod TextBegan
