pub mod Sections
pub mod Owned
pub mod Unique
