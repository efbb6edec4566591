-- What holds of the rules, as statements.
pub mod Readers
pub mod Demands
pub mod Routes
pub mod Meetings
pub mod Moved
pub mod Promises
