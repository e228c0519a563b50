-- What filling the lists of all rows asks and promises.
pub mod Filling
