-- The laws of names looked up and of the pass over a tree's nodes.
pub mod SlotNumbers
pub mod NodeCodes
pub mod NodeRuns
pub mod PairBytes
pub mod Stacks
pub mod OneOperator
pub mod OperatorSteps
pub mod NodeLists
