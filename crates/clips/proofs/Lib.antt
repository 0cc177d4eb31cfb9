pub mod Trims
pub mod Ranges
pub mod Clips
pub mod Emits
pub mod Orders
pub mod Unique
