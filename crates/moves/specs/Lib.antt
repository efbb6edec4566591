-- What the contracts of the moving steps cite.
pub mod Moves
