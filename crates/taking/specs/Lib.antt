-- What a step taken is.
pub mod Taking
pub mod Charges
