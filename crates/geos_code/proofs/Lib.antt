pub mod Bodies
pub mod Ends
pub mod Back
pub mod Cleaning
pub mod Bounds
