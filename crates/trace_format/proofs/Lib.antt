-- The laws of this crate.
pub mod CodeParts
pub mod MarkBytes
pub mod Numbers
pub mod RowByRow
