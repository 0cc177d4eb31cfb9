pub mod Forest
pub mod Labels
pub mod Orders
pub mod Unique
