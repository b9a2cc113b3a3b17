pub mod Faulty
pub mod Forms
pub mod ManySteps
