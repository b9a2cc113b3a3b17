pub mod Digits
pub mod HexLines
