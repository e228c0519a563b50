-- What reading and writing mean together: exactness, uniqueness, and both ways round.
pub mod Places
pub mod RecordsReadBack
pub mod BytesAccepted
pub mod Theorems
pub mod OneTrace
pub mod Widths
pub mod RoundTrips
pub mod Rewritten
pub mod OlderRecords
pub mod OlderReader
