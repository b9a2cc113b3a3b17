pub mod Named
pub mod Straight
pub mod Seen
