-- The three demands hold: demand_1, demand_1_jobs, demand_2, demand_2_values, demand_3; numbers, cases_stand. Asked,
-- Surviving and Flagging lead there.
pub mod Asked
pub mod Surviving
pub mod Demand1
pub mod Jobs
pub mod Flagging
pub mod Feeding
pub mod Demand2
pub mod Values
pub mod Demand3
pub mod NumberLists
pub mod MakingNumbers
pub mod Numbers
pub mod CaseNames
pub mod Cases
