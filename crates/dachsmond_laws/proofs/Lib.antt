-- What is told is one thing, and C may rely on its number.
pub mod Theorems
pub mod ListTheorems
pub mod Reliability
pub mod ReliableCalls
pub mod FirstQueue
