pub mod Heaps
pub mod Edits
pub mod Refused
pub mod Others
pub mod Calls
