-- What a push for a tree comes to.
pub mod Pushing
