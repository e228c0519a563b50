-- The laws. To cite: Unique and Total (a text has one tree or one place of refusal, and never both), Outcome (what
-- `parse` answers, both ways), RowFive (refusal 5 by places), Written, Fewest and Depth (a tree's text), SameCodes
-- and Nodes (what tells a tree), Examples. The rest leads there.
pub mod Table
pub mod Unique
pub mod Total
pub mod Outcome
pub mod RowFive
pub mod Written
pub mod Fewest
pub mod Depth
pub mod Examples
pub mod SameCodes
pub mod Nodes
pub mod Fitting
pub mod Shunting
pub mod Counting
pub mod Continuing
pub mod Refusals
pub mod Ranks
pub mod Levels
