-- What the queue with times promises.
pub mod Stamps
pub mod TimedQueues
