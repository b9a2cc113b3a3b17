pub mod Sets
pub mod Closed
pub mod Passes
pub mod Worked
