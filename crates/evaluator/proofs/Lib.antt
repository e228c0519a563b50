-- The laws that the functions over a tree are proved by.
pub mod Operating
pub mod Booleans
pub mod AnswerNumbers
pub mod Traces
