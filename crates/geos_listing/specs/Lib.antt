pub mod Rows
pub mod Instrs
pub mod Listing
