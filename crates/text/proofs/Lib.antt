pub mod Lookups
pub mod Tables
pub mod Unique
