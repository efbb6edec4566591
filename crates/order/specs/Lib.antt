-- What the contracts of an order of devices cite.
pub mod Order
