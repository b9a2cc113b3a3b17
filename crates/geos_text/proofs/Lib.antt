pub mod Examples
pub mod LineLaws
pub mod NumberLaws
pub mod WordLaws
pub mod Texts
