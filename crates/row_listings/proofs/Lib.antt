-- The laws of listings of texts: what the text comes to, one result, examples.
pub mod TextListings
pub mod ListingTheorems
pub mod ListingExamples
