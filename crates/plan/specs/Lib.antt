-- What the answers of the check's parts stand for.
pub mod Parts
