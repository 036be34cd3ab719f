pub mod Encodings
pub mod Stores
pub mod Laws
