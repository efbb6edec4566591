-- The laws of the opening.
pub mod Opens
