-- Laws of the writer.
pub mod Writes
