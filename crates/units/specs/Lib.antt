-- A plan file that comes byte by byte.
pub mod Units
pub mod Sound
pub mod Worked
