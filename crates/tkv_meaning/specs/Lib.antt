pub mod Statements
pub mod Code
pub mod Meaning
pub mod Written
