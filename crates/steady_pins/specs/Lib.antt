-- The steady pins of a tree: what they are in memory, and how they are found.
pub mod Pinned
pub mod Finding
pub mod Walking
pub mod Moving
pub mod Entries
