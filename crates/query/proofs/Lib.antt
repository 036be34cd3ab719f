pub mod Digits
pub mod Hexes
pub mod Splits
pub mod Tasks
