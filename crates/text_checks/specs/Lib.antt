-- What the checks of a trace as a text ask.
pub mod Inner
