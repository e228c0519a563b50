-- Document 01, "Trace file": the format, then what reading and writing come to.
pub mod Reading
pub mod Checking
