pub mod Journal
pub mod Notes
