pub mod Code
pub mod Edges
pub mod Known
