-- What the checks of rows ask and give.
pub mod Rows
