-- What an answer depends on (document 02, [11]): definitions.
pub mod Pins
pub mod Tables
