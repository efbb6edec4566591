-- The laws of the boundary.
pub mod Replies
pub mod Worked
