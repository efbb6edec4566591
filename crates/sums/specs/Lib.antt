-- What the contracts of the reduction cite.
pub mod Sums
