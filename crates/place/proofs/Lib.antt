-- Laws of the placement.
pub mod Places
