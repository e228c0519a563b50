-- Document 01, "Writing out": how tokens are spelled. Spelled is what must be believed; the others are for the
-- proofs and
-- the functions inside.
pub mod Spelled
pub mod TokenPlaces
pub mod Signs
pub mod Inner
