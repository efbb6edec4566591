-- What the writing functions ask, and what they leave.
pub mod Putting
