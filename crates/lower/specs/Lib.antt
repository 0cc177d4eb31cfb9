pub mod Given
pub mod Remains
