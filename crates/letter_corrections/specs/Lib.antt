-- What the correction of a row by the letters of its states comes to: Correcting has the call, RowNumbers the row that
-- digits name.
pub mod Correcting
pub mod RowNumbers
