-- The laws of the parser's levels.
pub mod LevelReturns
