-- What the run's parts ask for and leave.
pub mod Runs
