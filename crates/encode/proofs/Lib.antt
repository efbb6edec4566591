-- The laws of writing.
pub mod Puts
pub mod Given
pub mod Counting
pub mod Files
pub mod Accepted
