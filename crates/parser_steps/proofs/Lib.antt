-- The laws of the parser's single steps.
pub mod CodeTokens
pub mod SingleSteps
