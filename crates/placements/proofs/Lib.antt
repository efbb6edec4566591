-- Laws of the placement for a list of devices.
pub mod Firsts
pub mod Promises
pub mod States
pub mod WorkedPlaceAll
