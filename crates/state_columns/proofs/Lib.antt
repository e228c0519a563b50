-- The laws that columns of states are proved by.
pub mod Overs
pub mod Stating
pub mod SpeltParts
pub mod SpeltOperands
