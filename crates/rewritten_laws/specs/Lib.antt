-- The lists that `rewrite` writes, as its caller has them.
pub mod WrittenOut
