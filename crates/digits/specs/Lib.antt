-- What the contracts of the set-up of digits cite.
pub mod Digits
