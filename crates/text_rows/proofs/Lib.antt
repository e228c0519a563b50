-- The laws of rows: the checks of one (RowChecks), and one after the other (Rowing).
pub mod RowChecks
pub mod Rowing
