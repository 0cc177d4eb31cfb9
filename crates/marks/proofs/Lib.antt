pub mod Saving
pub mod Rooting
pub mod Unique
