pub mod Lists
pub mod State
pub mod Faults
pub mod Model
pub mod Meets
pub mod Lending
pub mod Theorem
