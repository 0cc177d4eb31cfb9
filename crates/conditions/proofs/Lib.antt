pub mod Sides
pub mod Assigning
pub mod Pairing
pub mod Unique
