-- What reading a text as a trace comes to.
pub mod Reading
