-- What the judgement of repeats asks and answers.
pub mod Blocks
