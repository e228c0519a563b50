-- Alternatives handed in as lists: when they are accepted (Lists), and what the call comes to that says so (Fitting).
pub mod Lists
pub mod Fitting
