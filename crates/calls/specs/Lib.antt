pub mod Numbered
pub mod Spelled
pub mod Waiting
