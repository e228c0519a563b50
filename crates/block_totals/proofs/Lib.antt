-- The laws that counting the answers of all rows is proved by.
pub mod Countings
