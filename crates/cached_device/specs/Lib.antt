pub mod History
pub mod Stopped
