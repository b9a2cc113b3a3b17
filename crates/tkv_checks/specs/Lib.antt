pub mod Places
pub mod Items
pub mod Walks
pub mod Checked
