-- Traces in which pins are overwritten (document 02, [11]): Overwritten has the definitions, Blanking the call.
pub mod Overwritten
pub mod Blanking
