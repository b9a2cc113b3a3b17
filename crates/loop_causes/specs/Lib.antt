pub mod Taken
pub mod Turns
pub mod Ahead
pub mod Causes
pub mod Tells
pub mod Noted
