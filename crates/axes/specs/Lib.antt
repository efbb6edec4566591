-- What the contracts of axis lists are written with.
pub mod Marks
