pub mod Assembling
pub mod Budgets
pub mod Calls
pub mod Unset
