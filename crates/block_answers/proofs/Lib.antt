-- The laws that filling the lists of all rows is proved by.
pub mod Rests
pub mod Fillings
