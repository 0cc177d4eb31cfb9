pub mod Goals
pub mod Forms
pub mod Turns
pub mod Gathering
pub mod Unique
