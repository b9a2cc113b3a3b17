pub mod Groups
pub mod Items
