-- What the functions that hold a part to its pins ask and promise.
pub mod Holding
