pub mod Beginning
pub mod Closed
pub mod Unique
