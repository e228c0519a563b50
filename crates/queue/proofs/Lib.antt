-- The laws that the queue is proved by, and what its contract comes to.
pub mod LastRows
pub mod Keeping
pub mod QueueTheorems
pub mod Unique
