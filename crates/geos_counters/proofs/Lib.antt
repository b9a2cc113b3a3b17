pub mod Noting
pub mod Takes
