-- The laws of a trace as a text: what `show` prints is read as the trace (ReadBack), and what is read is a trace
-- (Made).
-- Over the two calls: they are inverse (Inverse), and what is read follows from the text (MadeUnique). The others lead
-- there.
pub mod WordBytes
pub mod ShownLines
pub mod Chunks
pub mod Said
pub mod Shown
pub mod ReadBack
pub mod Made
pub mod Inverse
pub mod MadeUnique
