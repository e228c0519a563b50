-- What the call comes to that rewrites a tree into lent lists.
pub mod Calls
