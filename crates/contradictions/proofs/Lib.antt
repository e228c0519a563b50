-- The laws of this crate.
pub mod Allowing
pub mod RowsOf
pub mod Flagging
pub mod Reporting
