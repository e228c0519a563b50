-- The laws of a tree's texts: what the calls come to, case by case; one result; examples.
pub mod TreeTexts
pub mod Theorems
pub mod Examples
