-- What the queue promises.
pub mod Queues
