-- The laws that columns are proved by.
pub mod Passing
pub mod Looking
pub mod Tabling
pub mod Asking
pub mod Tallies
