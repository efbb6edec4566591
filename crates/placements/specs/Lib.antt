-- Document 02, Ask 1: the placement for a whole list of devices.
pub mod PlaceAll
pub mod Placing
pub mod WorkedPlaceAll
