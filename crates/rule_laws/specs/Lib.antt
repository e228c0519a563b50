-- Which expressions and patterns the laws of the two rules are about; 000's event report.
pub mod EventReport
pub mod Ternaries
