-- The mathematics of the functions: a file with a header's bytes.
pub mod Heads
pub mod Blocks
pub mod Plain
pub mod Feeds
