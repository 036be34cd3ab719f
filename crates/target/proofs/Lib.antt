pub mod Bytes
pub mod Tables
pub mod Writing
