-- What the contracts of the boundary cite, and worked answers.
pub mod Boundary
pub mod Worked
