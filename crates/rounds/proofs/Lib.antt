-- Laws of steps on two buffers, from below.
pub mod Turns
pub mod Memory
pub mod Steps
pub mod Plain
pub mod Rows
pub mod Rounds
