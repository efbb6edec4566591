-- What the parts of the run ask for and leave.
pub mod Rounds
