-- A step of an alternative in memory: its tests as edge numbers and places of operands.
pub mod OperandPlaces
pub mod Steps
