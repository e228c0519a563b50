-- The laws of the parser's answer.
pub mod LastState
