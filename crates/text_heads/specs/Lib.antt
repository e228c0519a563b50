-- What the checks of a head ask and give.
pub mod Heads
