-- Laws of the reading call.
pub mod Forms
pub mod Walks
pub mod Returns
