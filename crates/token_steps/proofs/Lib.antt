-- The laws of one token, from bytes up: first as the code goes, from Search on as document 01 says.
pub mod ByteClasses
pub mod Bytes
pub mod ByteByByte
pub mod Halves
pub mod Words
pub mod Table
pub mod Ways
pub mod Search
pub mod TokenStarts
pub mod OneCode
pub mod Right
pub mod RightName
pub mod RightBased
pub mod RightPlain
pub mod Taking
