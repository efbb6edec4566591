-- What the contracts by dimension are written with.
pub mod Dims
