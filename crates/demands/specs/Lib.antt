-- The three demands, a page each, as records of what is promised: Demand1 of every public call, with Jobs for those
-- that the program makes; Demand2 and Demand3 of what the laboratory is asked (Questions). Survival, Lists and Values
-- are pages of Demand2: reading and writing, the lists that `rewrite` writes, a boolean expression. Promises says what
-- Demand1 promises of a call; Numbers, with what numbers each call refuses, which CallNumbers lists; Cases has the
-- cases of table T, from their texts.
pub mod Promises
pub mod Questions
pub mod Demand1
pub mod Jobs
pub mod Survival
pub mod Lists
pub mod Demand2
pub mod Values
pub mod Demand3
pub mod CallNumbers
pub mod Numbers
pub mod Cases
