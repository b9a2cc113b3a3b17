pub mod Theorem
pub mod Named
