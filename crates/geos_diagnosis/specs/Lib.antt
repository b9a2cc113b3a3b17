pub mod Nests
pub mod Tells
