-- What the copies of a text's trace ask and give.
pub mod Copies
