-- What the contracts of the mesh's leaves ask for.
pub mod Fitting
