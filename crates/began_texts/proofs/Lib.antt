-- The laws of the listing of a text with where each match began: what the text comes to, one result.
pub mod TextBegan
pub mod Theorems
