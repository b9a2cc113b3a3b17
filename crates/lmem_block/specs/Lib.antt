pub mod Check
pub mod Found
