-- The laws of this crate.
pub mod Named
pub mod FilledNames
pub mod PinsAlone
pub mod Blanking
pub mod ListedSteps
pub mod Calls
pub mod BlankedCalls
pub mod BlankedTables
