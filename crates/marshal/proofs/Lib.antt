-- The laws of C's structs.
pub mod Structs
pub mod StructsShown
