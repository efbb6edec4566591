-- The laws of the group listing.
pub mod Lists
pub mod Ordering
pub mod Tests
pub mod Writing
pub mod Listing
