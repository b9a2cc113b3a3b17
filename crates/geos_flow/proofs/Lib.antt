pub mod Choices
pub mod Marked
pub mod Blocks
pub mod Into
mod Kept
pub mod Steps
pub mod Deciding
pub mod Leading
pub mod Taking
