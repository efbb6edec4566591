-- What the contracts of the opening are written with.
pub mod Opening
