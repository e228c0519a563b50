-- What the listing of a tree, on a trace, comes to.
pub mod TreeListings
