-- What the listing of a text, on a trace, comes to.
pub mod Listings
