pub mod Codes
pub mod Spots
pub mod Given
