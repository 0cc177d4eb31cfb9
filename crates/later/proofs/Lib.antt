pub mod Changing
pub mod Searching
pub mod Unique
