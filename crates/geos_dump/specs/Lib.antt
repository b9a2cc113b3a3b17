pub mod Sides
pub mod Copies
