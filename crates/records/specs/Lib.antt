-- Document 02, Ask 2: plans given as records, and their files.
pub mod Records
pub mod Writing
pub mod Forms
pub mod RoundTrip
pub mod Reading
pub mod Planning
pub mod PlanAnswer
pub mod WorkedPlans
pub mod Promises
pub mod WorkedReading
pub mod WorkedRecords
