pub mod Gen
pub mod Commas
pub mod Lines
pub mod Unique
