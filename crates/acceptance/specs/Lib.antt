-- The alternatives of a tree's vector expression: how each is put together, and how many and how large they are.
pub mod Notes
pub mod Sizes
pub mod Accepted
