-- The laws of what the types stand for, from below.
pub mod Types
pub mod Refusals
pub mod Answers
pub mod Promises
pub mod WorkedAnswers
pub mod WorkedPlaces
