pub mod Rest
pub mod Leaves
pub mod Copies
pub mod Unique
