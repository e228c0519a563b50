-- What the functions that answer a vector expression as it is written ask and promise.
pub mod Lengths
pub mod Spans
pub mod Filling
