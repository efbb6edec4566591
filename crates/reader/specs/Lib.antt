-- What the reader's answers stand for.
pub mod Reading
