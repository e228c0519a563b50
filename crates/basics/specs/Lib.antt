-- What every crate needs, as definitions.
pub mod Words
pub mod Text
pub mod Deciding
pub mod Refusing
pub mod Memory
