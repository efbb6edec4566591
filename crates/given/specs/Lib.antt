-- What the parts of the judgement of arguments ask for and answer.
pub mod Given
