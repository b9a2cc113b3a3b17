pub mod Counters
pub mod Touching
pub mod Trails
pub mod Idle
pub mod Steps
