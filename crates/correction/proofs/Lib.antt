-- The laws that a correction is proved by, and what its contract comes to.
pub mod Correcting
pub mod CorrectionTheorems
pub mod Unique
