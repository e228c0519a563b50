-- What is written: the alternatives of a tree as edge numbers and places of operands.
pub mod Lists
