-- What C's structs of a sharding and of a step stand for.
pub mod Structs
