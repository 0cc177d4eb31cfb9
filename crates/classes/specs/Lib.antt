pub mod Given
pub mod Joined
