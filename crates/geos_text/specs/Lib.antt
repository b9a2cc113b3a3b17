pub mod Words
pub mod Numbers
pub mod Registers
pub mod Parts
