pub mod Bad
pub mod Faults
pub mod Uses
pub mod Walks
