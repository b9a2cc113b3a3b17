pub mod Budgets
pub mod Commands
pub mod Keeping
