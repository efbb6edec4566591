-- What the judgement of a step asks.
pub mod Step
