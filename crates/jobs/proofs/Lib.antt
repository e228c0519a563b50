-- The laws of the calls that go from a text to what is asked of it.
pub mod TextOrders
pub mod TextCounts
pub mod TableLines
pub mod Additions
pub mod SumLaws
