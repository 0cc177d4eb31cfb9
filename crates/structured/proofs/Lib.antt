pub mod Structuring
pub mod Unique
