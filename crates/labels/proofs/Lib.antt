pub mod Finding
pub mod Labelling
pub mod Jumping
pub mod Unique
