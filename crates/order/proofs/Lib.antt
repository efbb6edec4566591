-- The laws of an order of devices.
pub mod Loops
pub mod Shards
