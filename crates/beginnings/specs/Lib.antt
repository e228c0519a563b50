-- Where the matches began: what is asked and promised.
pub mod Times
pub mod Dated
