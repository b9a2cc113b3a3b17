pub mod Texts
pub mod Limits
pub mod MarkLaws
