pub mod Fresh
pub mod Marking
pub mod Counting
pub mod Walking
