pub mod Laws
pub mod Meaning
pub mod Refusals
pub mod Table
