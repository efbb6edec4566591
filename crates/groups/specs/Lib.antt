-- What the contracts of the group listing are written with.
pub mod Ordering
