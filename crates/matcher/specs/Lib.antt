-- What the matcher promises: the alternatives that lists in memory stand for, their answers at a row and at all rows.
pub mod Answers
pub mod Scenes
pub mod Tables
