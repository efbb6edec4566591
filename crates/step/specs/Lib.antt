-- What one step asks for and leaves.
pub mod Stepping
