pub mod Naming
pub mod Testing
pub mod Branching
pub mod Unique
