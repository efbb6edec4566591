-- Laws of the planner.
pub mod Tails
pub mod Three
pub mod Routes
