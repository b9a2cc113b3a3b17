pub mod Edges
pub mod Marks
pub mod Flow
pub mod Graphs
pub mod Waiting
pub mod Pending
pub mod Slots
