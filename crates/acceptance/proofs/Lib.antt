-- The laws that limit 8 is counted by.
pub mod CappedCounts
pub mod Numbers
pub mod Noting
pub mod NotedParts
pub mod CappedSizes
pub mod Chosen
pub mod Shapes
pub mod Measures
pub mod MeasuredPins
pub mod Acceptance
pub mod AnyRules
