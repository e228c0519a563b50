-- The laws of this crate.
pub mod StableNames
pub mod Putting
pub mod RowOrders
pub mod TraceChecks
pub mod WriteOutcomes
