-- Numbers and shares as text, and how a text is delivered into a lent buffer.
-- Inner is for the functions inside.
pub mod Numbers
pub mod Share
pub mod Delivering
pub mod Inner
