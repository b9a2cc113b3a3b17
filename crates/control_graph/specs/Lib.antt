pub mod Arcs
pub mod Orders
pub mod Waits
