-- What the parts of the placement ask for and leave.
pub mod Placing
