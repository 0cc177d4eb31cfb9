pub mod Buffers
pub mod Ranges
