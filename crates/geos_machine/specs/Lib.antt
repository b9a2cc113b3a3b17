pub mod Machine
pub mod Runs
pub mod Traces
pub mod Lent
