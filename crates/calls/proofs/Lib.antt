pub mod Recorded
pub mod Waits
pub mod Counting
pub mod Trims
pub mod Digits
pub mod Naming
pub mod Unique
