pub mod Points
pub mod Theorem
pub mod Findings
pub mod Refusals
