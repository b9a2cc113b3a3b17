pub mod Facts
pub mod Fields
