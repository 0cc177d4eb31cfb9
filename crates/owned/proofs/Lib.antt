pub mod Tally
pub mod Once
pub mod Unique
