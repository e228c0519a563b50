-- The pins that expressions name (document 02, [11]), and tables that have an entry for each pin.
pub mod Pins
pub mod Tables
