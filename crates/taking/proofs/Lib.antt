-- Laws of a step taken.
pub mod Takes
