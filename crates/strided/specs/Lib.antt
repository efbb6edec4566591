-- What the contracts of the copy with strides cite.
pub mod Strided
pub mod Worked
