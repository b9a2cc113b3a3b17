pub mod Effects
pub mod Grants
pub mod Routines
pub mod Sets
