pub mod Counted
pub mod Fault
pub mod Hex
pub mod Reading
