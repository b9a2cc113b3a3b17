pub mod Found
pub mod BudgetLines
pub mod Calling
pub mod Unsetting
