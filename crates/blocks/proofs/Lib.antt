-- Laws of the judgement of repeats, from below.
pub mod Heads
pub mod Same
pub mod Plain
pub mod Inner
pub mod Items
pub mod Next
