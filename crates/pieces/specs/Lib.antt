-- What the contracts of the check in pieces are written with.
pub mod Held
