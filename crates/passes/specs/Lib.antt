pub mod Regions
pub mod Sweeps
pub mod Dropping
