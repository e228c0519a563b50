-- The laws of reading a text: its parts (Parted), what the first pass returns (Outcomes) and the second (Rooms).
pub mod Parted
pub mod Outcomes
pub mod Rooms
