-- The parser's state and its single steps: what they ask and tell.
pub mod Inner
