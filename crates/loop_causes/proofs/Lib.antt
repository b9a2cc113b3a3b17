pub mod Changes
pub mod Onward
pub mod Longest
pub mod Tests
pub mod Kept
