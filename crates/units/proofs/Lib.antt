-- The theorem of the slow line, from its parts up.
pub mod Parts
pub mod Orders
pub mod Steps
pub mod Rests
pub mod Checks
pub mod Line
pub mod Full
pub mod Sounds
pub mod Worked
