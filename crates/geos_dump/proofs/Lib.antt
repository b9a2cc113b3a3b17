pub mod Equal
pub mod Sizes
pub mod Listed
pub mod Looks
pub mod Fields
