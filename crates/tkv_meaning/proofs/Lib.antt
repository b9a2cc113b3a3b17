mod Control
mod Examples
mod Keeps
pub mod Runs
