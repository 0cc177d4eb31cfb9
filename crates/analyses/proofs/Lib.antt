mod Gathered
pub mod Sound
pub mod Unique
