pub mod Ranges
pub mod Searches
pub mod Targets
pub mod Naming
pub mod RowsMade
pub mod Once
pub mod RowsLowered
pub mod Unique
