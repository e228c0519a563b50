-- The laws that the queue with times is proved by, and what its contract comes to.
pub mod Keeping
pub mod RisingTimes
pub mod TimedTheorems
pub mod Unique
