pub mod Edges
pub mod Piled
pub mod Placing
