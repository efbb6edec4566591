-- What the types of the code stand for, and the promises of the calls.
pub mod Types
pub mod Answers
pub mod WorkedAnswers
pub mod WorkedPlaces
pub mod Promises
