pub mod Comparing
pub mod Looking
pub mod Unique
