-- The laws of this crate.
pub mod Splits
pub mod Exchanging
pub mod Placing
pub mod Puts
pub mod PinPuts
pub mod StepTests
pub mod JoinTests
pub mod StepCases
pub mod Places
