-- Alternatives handed in as lists: what the calls over them come to. listed_acceptance says when they are accepted.
pub mod Listed
