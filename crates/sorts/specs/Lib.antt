pub mod Places
pub mod Sorted
