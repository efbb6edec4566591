-- Laws of the judgement of arguments, from below.
pub mod Sizes
pub mod Counts
pub mod Ends
pub mod Plain
pub mod Heads
pub mod Inside
pub mod Turns
pub mod Whole
