-- What the correction of a row comes to, for a tree.
pub mod Correcting
