-- The laws of written texts.
--   TokenKinds, Nodes, Layouts, Tables   the signs of a tree, from its bytes, as the functions write them
--   Known, Calls                         what is written is known tokens, and what the call is proved by
--   Theorems                             to cite
pub mod TokenKinds
pub mod Nodes
pub mod Layouts
pub mod Tables
pub mod Known
pub mod Calls
pub mod Theorems
