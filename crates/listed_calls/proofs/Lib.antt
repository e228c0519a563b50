-- The laws of the calls over alternatives handed in.
pub mod Calls
pub mod QueueCalls
pub mod Unique
pub mod Theorems
