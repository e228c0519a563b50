-- The laws of this crate.
pub mod AsWritten
pub mod OnWindows
