-- The laws of a file's records, and of what the checks of a record come to.
pub mod NameWalk
pub mod Orders
pub mod Cursors
pub mod RowCursors
pub mod GoodRecords
pub mod CursorSteps
pub mod ManyRows
