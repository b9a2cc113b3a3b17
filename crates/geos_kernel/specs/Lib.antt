pub mod View
pub mod Spans
pub mod Kernel
pub mod Loads
pub mod Refused
pub mod Turns
pub mod Files
pub mod Limits
