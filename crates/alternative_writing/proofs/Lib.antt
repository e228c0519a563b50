-- The laws of writing the text of an alternative, step by step and test by test.
pub mod Between
pub mod StepWalks
pub mod AlternativeWalks
