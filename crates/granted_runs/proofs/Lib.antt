pub mod Above
pub mod Asked
pub mod Executed
pub mod Aims
pub mod Spared
pub mod Steps
pub mod Runs
pub mod Within
